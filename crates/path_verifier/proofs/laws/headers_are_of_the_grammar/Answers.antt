use Rattle.path_verifier.proofs.Headers.{header_is_one}
use Rattle.path_verifier.proofs.laws.headers_are_of_the_grammar.Goals as goal

pub returns : goal.returns
returns c = header_is_one
