use Rattle.std.proofs.Common.{◌≡◌, take}
use Rattle.daemon_cache.proofs.texts.own_texts.Given as goal

abbrev pub invariant-loop-text : goal.invariant-loop-text
invariant-loop-text l = l.own.items ≡ take l.text-index l.texts
