-- The test of an authenticator under a list of keys.
use Rattle.std.proofs.Common.{◌≡◌, ℕ, Bool, List, Decides}
use Rattle.std.specs.Prelude.{IsTrue, ◌↔◌}
use Rattle.std.specs.Str.{bytes_eq}
use Rattle.std.proofs.lemmas.Bool.Decides.{Decides-at}
use Rattle.std.proofs.lemmas.Slice.Eq.{bytes_eq-Decides}
use Rattle.hop_mac.specs.Hop.{authenticator}
use Rattle.scion_topology.specs.View.{View, IsAuthentic, is_authentic}
use Rattle.scion_topology.proofs.Deciding.{Decides-list_any}

pub Decides-is_authentic : (view : View) (mac : List ℕ) (beta timestamp exp_time cons_ingress cons_egress : ℕ)
    → Decides (is_authentic view mac beta timestamp exp_time cons_ingress cons_egress) (IsAuthentic view mac beta timestamp exp_time cons_ingress cons_egress)
Decides-is_authentic view mac beta timestamp exp_time cons_ingress cons_egress =
    Decides-list_any
    (λ key. bytes_eq mac (authenticator key beta timestamp exp_time cons_ingress cons_egress))
    (λ key. mac ≡ authenticator key beta timestamp exp_time cons_ingress cons_egress)
    (λ key. bytes_eq-Decides mac (authenticator key beta timestamp exp_time cons_ingress cons_egress))
    view.keys

-- and the test tells what is authentic
pub meant_by_test : (view : View) (mac : List ℕ) (beta timestamp exp_time cons_ingress cons_egress : ℕ) (passed : Bool)
    → passed ≡ is_authentic view mac beta timestamp exp_time cons_ingress cons_egress
    → IsTrue passed ↔ IsAuthentic view mac beta timestamp exp_time cons_ingress cons_egress
meant_by_test view mac beta timestamp exp_time cons_ingress cons_egress passed same =
    Decides-at _ _ same (Decides-is_authentic view mac beta timestamp exp_time cons_ingress cons_egress)
