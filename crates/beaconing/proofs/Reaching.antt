-- Which link a way out leads over, and that no way out of a core AS leads to a parent.
use Rattle.std.proofs.Common.{◌≡◌, ◌≢◌, ℕ, zero, suc, ◌<◌, Bool, true, false, cond, eqb, List, [], ◌∷◌, length, Option, Some, None, Ok, refl, sym, ap, ◌∙◌, arith, inl, inr, ◌||◌, IfSome, Any}
use Rattle.std.specs.List.{list_any, cons_option}
use Rattle.std.proofs.lemmas.Bool.{cases_Bool, or_parts, and_parts, eqb-true, eq-eqb, true≢false}
use Rattle.std.proofs.lemmas.Option.{same_Some}
use Rattle.scion_topology.specs.declared.entry.IfEntry.{IfEntry}
use Rattle.scion_topology.specs.declared.entry.LinkKind.{LinkKind}
use Rattle.scion_topology.specs.declared.entry.LinkKind.TheVariants as links
use Rattle.scion_topology.specs.declared.fault.TopologyFault.TheVariants as faults
use Rattle.scion_topology.specs.declared.network.AsEntry.{AsEntry}
use Rattle.scion_topology.specs.declared.network.Link.{Link}
use Rattle.scion_topology.specs.declared.network.LinkClass.{LinkClass}
use Rattle.scion_topology.specs.declared.network.LinkClass.TheVariants as classes
use Rattle.scion_topology.specs.Network.{Network, as_named, is_end, has_end, link_named, kind_at_a, kind_at_b, interface_of, table_of, interface_in}
use Rattle.scion_topology.specs.Network as net
use Rattle.scion_topology.specs.Causes.{is_core, is_ill_classed, is_ill_joined}
use Rattle.scion_topology.specs.Topology.{IsNetwork, known_as, known_link, interface_at, far_end, far_end_in}
use Rattle.refusal.proofs.Steps.{bind_ok, ok_is, ok_or_ok}
use Rattle.scion_topology.proofs.Judging.{IsFree-IsNetwork}
use Rattle.scion_topology.proofs.Places.{network_apart}
use Rattle.scion_topology.proofs.Ends.{IsJoined-known_link, interface_in-table_of}
use Rattle.path_segment.specs.declared.entry.Entry.{Entry}
use Rattle.path_segment.specs.declared.kind.SegKind.{SegKind}
use Rattle.path_segment.specs.declared.kind.SegKind.TheVariants.{Core, Intra}
use Rattle.beaconing.specs.Entry.{kind_over, goes_on}
use Rattle.beaconing.specs.Issued.{AreWays, LeadsOn, HasWayOut}

pub ia_of_named : (ases : List AsEntry) (ia : ℕ) (one : AsEntry) → as_named ases ia ≡ Some one → one.ia ≡ ia
ia_of_named [] ia one found = absurd cc
ia_of_named (first ∷ rest) ia one found = elim (cases_Bool (eqb first.ia ia)) [
  | inl here ↦
      (let now : cond true (Some first) (as_named rest ia) ≡ Some one = rw here at found in let same : first ≡ one = cc in rw (← same) (eqb-true first.ia ia here))
  | inr other ↦
      (let later : cond false (Some first) (as_named rest ia) ≡ Some one = rw other at found in ia_of_named rest ia one later)
]

-- ---- a fact of some link

pub any_here : {X : Type 0} (P : X → Type 0) (x : X) (xs : List X) → P x → Any P (x ∷ xs)
any_here P x xs p = let some : zero < length (x ∷ xs) = omega arith in (zero, x, some, refl, p)

pub any_there : {X : Type 0} (P : X → Type 0) (x : X) (xs : List X) → Any P xs → Any P (x ∷ xs)
any_there P x xs any =
    let below : suc any.0 < length (x ∷ xs) = (let h = any.2 in omega arith) in (suc any.0, any.1, below, any.3, any.4)

any_found : (P : Link → Type 0) (ls : List Link) (ia number : ℕ) (link : Link)
    → link_named ls ia number ≡ Some link → P link → Any P ls
any_found P [] ia number link found p = absurd cc
any_found P (first ∷ rest) ia number link found p = elim (cases_Bool (has_end first ia number)) [
  | inl here ↦
      (let now : cond true (Some first) (link_named rest ia number) ≡ Some link = rw here at found in let same : first ≡ link = cc in any_here P first rest (rw same p))
  | inr other ↦
      (let later : cond false (Some first) (link_named rest ia number) ≡ Some link = rw other at found in any_there P first rest (any_found P rest ia number link later p))
]

-- ---- classes

core_at_a : (class : LinkClass) → goes_on Core (kind_at_a class) ≡ true → class ≡ classes.Core
core_at_a classes.Core on = refl
core_at_a classes.Child on = absurd (true≢false (sym on))

child_at_a : (class : LinkClass) → goes_on Intra (kind_at_a class) ≡ true → class ≡ classes.Child
child_at_a classes.Core on = absurd (true≢false (sym on))
child_at_a classes.Child on = refl

core_at_b : (class : LinkClass) → goes_on Core (kind_at_b class) ≡ true → class ≡ classes.Core
core_at_b classes.Core on = refl
core_at_b classes.Child on = absurd (true≢false (sym on))

none_at_b : (class : LinkClass) → goes_on Intra (kind_at_b class) ≡ true → ⊥
none_at_b classes.Core on = true≢false (sym on)
none_at_b classes.Child on = true≢false (sym on)

leads_from_a : (kind : SegKind) (entry next : Entry) (link : Link)
    → goes_on kind (kind_at_a link.class) ≡ true → AreWays entry next link.a link.b
    → LeadsOn kind entry next link
leads_from_a Core entry next link on ways = (core_at_a link.class on, inl ways)
leads_from_a Intra entry next link on ways = (child_at_a link.class on, ways)

leads_from_b : (kind : SegKind) (entry next : Entry) (link : Link)
    → goes_on kind (kind_at_b link.class) ≡ true → AreWays entry next link.b link.a
    → LeadsOn kind entry next link
leads_from_b Core entry next link on ways = (core_at_b link.class on, inr ways)
leads_from_b Intra entry next link on ways = absurd (none_at_b link.class on)

-- ---- the link of a way out

seen_at_a : (link : Link)
    → interface_of link.a.ia link ≡ Some (net.end_as_interface link.a (kind_at_a link.class) link.up)
seen_at_a link = rw (eq-eqb link.a.ia link.a.ia refl) refl

seen_at_b : (link : Link) → eqb link.a.ia link.b.ia ≡ false
    → interface_of link.b.ia link ≡ Some (net.end_as_interface link.b (kind_at_b link.class) link.up)
seen_at_b link apart = rw (apart, eq-eqb link.b.ia link.b.ia refl) refl

-- where a way out leads, a link of the beacon's kind leads
pub leads_on : (n : Network) (kind : SegKind) (entry next : Entry) (x m : ℕ) → IsNetwork n
    → HasWayOut n kind entry → far_end_in n entry.ia entry.cons_egress ≡ Ok (x, m) → x ≡ next.ia
    → m ≡ next.cons_ingress → Any (LeadsOn kind entry next) n.links
unfolding far_end_in
leads_on n kind entry next x m network way found at_x at_m =
    let ia = entry.ia in
    let number = entry.cons_egress in
    let at = bind_ok (known_link n ia number) _ (x, m) found in
    let link = at.0 in
    let pair = ok_is ((far_end link ia number).ia, (far_end link ia number).number) (x, m) at.2 in
    let x-is : (far_end link ia number).ia ≡ x = ap (λ (p : ℕ × ℕ). p.0) pair in
    let m-is : (far_end link ia number).number ≡ m = ap (λ (p : ℕ × ℕ). p.1) pair in
    let is = IsJoined-known_link n ia number link network at.1 in
    let free = IsFree-IsNetwork n network in
    let step = bind_ok (known_as n ia) _ way.out way.there in
    let shown : interface_in (table_of ia n.links) number ≡ Some way.out = ok_or_ok _ faults.NoLink way.out step.2 in
    let near_shown : interface_of ia link ≡ Some way.out =
    sym (interface_in-table_of ia number n.links link (network_apart n network) is.named) ∙ shown in
    any_found (LeadsOn kind entry next) n.links ia number link is.named (elim (cases_Bool (is_end link.a ia number)) [
      | inl here ↦ (
          let parts = and_parts (eqb link.a.ia ia) (eqb link.a.number number) here in
          let a_is = eqb-true _ _ parts.0 in
          let seen : Some (net.end_as_interface link.a (kind_at_a link.class) link.up) ≡ Some way.out =
          sym (seen_at_a link) ∙ ap (λ (y : ℕ). interface_of y link) a_is ∙ near_shown in
          let kind_is : kind_at_a link.class ≡ way.out.kind = ap (λ (i : IfEntry). i.kind) (same_Some _ way.out seen) in
          let bx : link.b.ia ≡ x = (let f : (cond true link.b link.a).ia ≡ x = rw here at x-is in f) in
          let bm : link.b.number ≡ m = (let f : (cond true link.b link.a).number ≡ m = rw here at m-is in f) in
          leads_from_a kind entry next link (ap (goes_on kind) kind_is ∙ way.on)
          (a_is, eqb-true _ _ parts.1, bx ∙ at_x, bm ∙ at_m))
      | inr other ↦ (
          let side : is_end link.b ia number ≡ true =
          (let ends = is.ends in let f : (false || is_end link.b ia number) ≡ true = rw other at ends in f) in
          let parts = and_parts (eqb link.b.ia ia) (eqb link.b.number number) side in
          let b_is = eqb-true _ _ parts.0 in
          let seen : Some (net.end_as_interface link.b (kind_at_b link.class) link.up) ≡ Some way.out =
          sym (seen_at_b link is.apart) ∙ ap (λ (y : ℕ). interface_of y link) b_is ∙ near_shown in
          let kind_is : kind_at_b link.class ≡ way.out.kind = ap (λ (i : IfEntry). i.kind) (same_Some _ way.out seen) in
          let ax : link.a.ia ≡ x = (let f : (cond false link.b link.a).ia ≡ x = rw other at x-is in f) in
          let am : link.a.number ≡ m = (let f : (cond false link.b link.a).number ≡ m = rw other at m-is in f) in
          leads_from_b kind entry next link (ap (goes_on kind) kind_is ∙ way.on)
          (b_is, eqb-true _ _ parts.1, ax ∙ at_x, am ∙ at_m))
    ])

-- ---- a core AS has no parent

abbrev NoParent : IfEntry → Type 0
NoParent entry = entry.kind ≢ links.Parent

no_parent_at_a : (class : LinkClass) → kind_at_a class ≢ links.Parent
no_parent_at_a classes.Core e = absurd cc
no_parent_at_a classes.Child e = absurd cc

no_parent_at_b : (ases : List AsEntry) (class : LinkClass) (a b : ℕ) → is_ill_classed ases class a b ≡ false
    → is_core ases b ≡ true → kind_at_b class ≢ links.Parent
no_parent_at_b ases classes.Core a b well core e = absurd cc
no_parent_at_b ases classes.Child a b well core e = true≢false (sym core ∙ (or_parts _ (is_core ases b) well).1)

no_parent_of : (x y : Bool) (a b : IfEntry) → NoParent a → (y ≡ true → NoParent b)
    → IfSome (cond x (Some a) (cond y (Some b) None)) NoParent
no_parent_of true y a b at_a at_b = at_a
no_parent_of false true a b at_a at_b = at_b refl
no_parent_of false false a b at_a at_b = tt

no_parent_first : (o : Option IfEntry) (table : List IfEntry) (number : ℕ) (out : IfEntry) → IfSome o NoParent
    → (interface_in table number ≡ Some out → NoParent out)
    → interface_in (cons_option o table) number ≡ Some out → NoParent out
no_parent_first None table number out first later shown = later shown
no_parent_first (Some e) table number out first later shown = elim (cases_Bool (eqb e.number number)) [
  | inl here ↦
      (let now : cond true (Some e) (interface_in table number) ≡ Some out = rw here at shown in let same : e ≡ out = same_Some e out now in rw (← same) first)
  | inr other ↦
      (let past : cond false (Some e) (interface_in table number) ≡ Some out = rw other at shown in later past)
]

no_parent_in : (ases : List AsEntry) (ia number : ℕ) (ls : List Link) (out : IfEntry) → is_core ases ia ≡ true
    → list_any (λ link. is_ill_joined ases link) ls ≡ false → interface_in (table_of ia ls) number ≡ Some out
    → NoParent out
no_parent_in ases ia number [] out core well shown = absurd cc
no_parent_in ases ia number (link ∷ ls) out core well shown =
    let parts = or_parts (is_ill_joined ases link) (list_any (λ l. is_ill_joined ases l) ls) well in
    let classed = (or_parts (eqb link.a.ia link.b.ia) (is_ill_classed ases link.class link.a.ia link.b.ia) parts.0).1 in
    no_parent_first (interface_of ia link) (table_of ia ls) number out
    (no_parent_of (eqb link.a.ia ia) (eqb link.b.ia ia) _ _ (no_parent_at_a link.class) (λ at_b. no_parent_at_b ases link.class link.a.ia link.b.ia classed (ap (is_core ases) (eqb-true link.b.ia ia at_b) ∙ core)))
    (no_parent_in ases ia number ls out core parts.1) shown

begins_over : (kind : LinkKind) → kind ≢ links.Parent → goes_on (kind_over kind) kind ≡ true
begins_over links.Core up = refl
begins_over links.Parent up = absurd (up refl)
begins_over links.Child up = refl

-- a beacon that a core AS begins may go on
pub core_goes_on : (n : Network) (ia number : ℕ) (out : IfEntry) → IsNetwork n → is_core n.ases ia ≡ true
    → interface_at n ia number ≡ Ok out → goes_on (kind_over out.kind) out.kind ≡ true
core_goes_on n ia number out network core found =
    let free = IsFree-IsNetwork n network in
    let step = bind_ok (known_as n ia) _ out found in
    let shown : interface_in (table_of ia n.links) number ≡ Some out = ok_or_ok _ faults.NoLink out step.2 in
    begins_over out.kind (no_parent_in n.ases ia number n.links out core free.classes shown)
