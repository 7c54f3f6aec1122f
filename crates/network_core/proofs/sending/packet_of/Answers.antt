use Rattle.std.proofs.Common.{◌<◌, ◌^◌, ℕ, ◌∙◌, subst}
use Rattle.path_header.specs.Value.{IsHeader}
use Rattle.path_header.specs.Spelling.{FitsBits}
use Rattle.path_verifier.proofs.Breaches.{header_kept}
use Rattle.network_core.proofs.sending.packet_of.Goals as goal

pub returns-clause-frame : goal.returns-clause-frame
returns-clause-frame c =
    let header = c.header-header.ensures ∙ header_kept c.known.ensures.1 in
    record {
      source_fits = subst (λ (n : ℕ). n < 2 ^ 64) c.source-source.ensures c.in_ok-bytes.ensures.addresses.0;
      destination_fits = subst (λ (n : ℕ). n < 2 ^ 64) c.destination.ensures c.in_ok-bytes.ensures.addresses.1;
      is_header = subst IsHeader header c.known-2.ensures;
      fits = subst FitsBits header c.in_ok-bytes.ensures.fits;
    }
