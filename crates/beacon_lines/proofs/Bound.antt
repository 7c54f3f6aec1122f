-- The calls of beaconing that are done: a beacon that is bound for an AS is ended there.
use Rattle.std.proofs.Common.{◌≡◌, ◌≢◌, ◌⊎◌, ◌-◌, ◌≤◌, ◌<◌, ℕ, true, false, eqb, ◌||◌, List, [], ◌∷◌, ◌++◌, length, Option, Some, Result, Ok, refl, sym, ap, ◌∙◌, inl, inr, arith}
use Rattle.std.specs.Prelude.{slice_get, nat_lt}
use Rattle.std.specs.List.{list_any}
use Rattle.std.specs.Option.{ok_or, option_map_or}
use Rattle.std.proofs.lemmas.Bool.{or_cases, or_from, eqb-true, eq-eqb, ne_eqb, not-true, not-false, not_from_true, not_from_false, lt-ltb, true≢false}
use Rattle.std.proofs.lemmas.List.Folds.{list_any-append}
use Rattle.std.proofs.lemmas.List.{length_push}
use Rattle.refusal.specs.Refusal.{check, or_else}
use Rattle.refusal.proofs.Steps.{bind_from}
use Rattle.scion_topology.specs.declared.entry.IfEntry.{IfEntry}
use Rattle.scion_topology.specs.declared.entry.LinkKind.{LinkKind}
use Rattle.scion_topology.specs.declared.network.AsEntry.{AsEntry}
use Rattle.scion_topology.specs.Network.{Network, as_named, kind_at_a}
use Rattle.scion_topology.specs.Topology.{interface_at, far_end_in}
use Rattle.path_segment.specs.declared.entry.Entry.{Entry}
use Rattle.path_segment.specs.declared.kind.SegKind.{SegKind}
use Rattle.path_segment.specs.declared.kind.SegKind.TheVariants.{Core, Intra}
use Rattle.path_segment.specs.Chain.{Chain, chain_of, with_last, first_as, last_as, as_at}
use Rattle.beaconing.specs.declared.fault.BeaconFault.{BeaconFault}
use Rattle.beaconing.specs.declared.fault.BeaconFault.TheVariants.{TooLong, Loop, NotCore, NoInterface, LinkDown, WrongKind, NotHere}
use Rattle.beaconing.specs.Entry.{entry_by, added_by, kind_over, goes_on}
use Rattle.beaconing.specs.Calls.{originated_beacon, extended_beacon, terminated_beacon, last_of, come_to, is_new}
use Rattle.beaconing.proofs.Reaching.{ia_of_named}
use Rattle.beacon_lines.specs.declared.ways.WayOut.{WayOut}
use Rattle.beacon_lines.specs.Reach.{class_of}
use Rattle.beacon_lines.proofs.Leading.{IsOpen}

-- ---- a beacon with its last entry

-- the chain begins with an entry of this AS
pub record BeginsAt (first : ℕ) (entries : List Entry) : Type 0 where
  pub entry : Entry
  pub later : List Entry
  pub is : entries ≡ entry ∷ later
  pub of : entry.ia ≡ first

pub begins_longer : (first : ℕ) (entries : List Entry) (last : Entry) → BeginsAt first entries
    → BeginsAt first (entries ++ last ∷ [])
begins_longer first entries last begins = record {
  entry = begins.entry;
  later = begins.later ++ last ∷ [];
  is = ap (λ es. es ++ last ∷ []) begins.is;
  of = begins.of;
}

-- the last element of a list by its place
pub newest : {X : Type 0} (xs : List X) (x : X) → slice_get (xs ++ x ∷ []) (length xs) ≡ Some x
newest [] x = refl
newest (y ∷ xs) x = newest xs x

last_at : (entries : List Entry) (last : Entry)
    → slice_get (entries ++ last ∷ []) (length (entries ++ last ∷ []) - 1) ≡ Some last
last_at entries last =
    let longer = length_push entries last in
    let place : length (entries ++ last ∷ []) - 1 ≡ length entries = omega arith in
    ap (slice_get (entries ++ last ∷ [])) place ∙ newest entries last

pub last_is : (chain : Chain) (last : Entry) → last_of (with_last chain last) ≡ Some last
last_is chain last = last_at chain.entries last

pub begun_in : (first : ℕ) (chain : Chain) → BeginsAt first chain.entries → first_as chain ≡ first
unfolding first_as
begun_in first chain begins = ap (λ es. as_at es 0) begins.is ∙ begins.of

pub ended_in : (chain : Chain) (last : Entry) → last_as (with_last chain last) ≡ last.ia
unfolding last_as
ended_in chain last = ap (λ (o : Option Entry). option_map_or (λ (entry : Entry). entry.ia) o 0)
    (last_at chain.entries last)

-- which ASes a beacon has not passed
pub new_longer : (chain : Chain) (last : Entry) (ia : ℕ) → is_new chain ia ≡ true → last.ia ≢ ia
    → is_new (with_last chain last) ia ≡ true
unfolding is_new
new_longer chain last ia new other =
    not_from_false (list_any (λ (entry : Entry). eqb entry.ia ia) (chain.entries ++ last ∷ []))
    (list_any-append (λ (entry : Entry). eqb entry.ia ia) chain.entries (last ∷ [])
    ∙ or_from (list_any (λ (entry : Entry). eqb entry.ia ia) chain.entries) _ (not-true _ new)
    (or_from (eqb last.ia ia) false (ne_eqb last.ia ia other) refl))

pub old_longer : (chain : Chain) (last : Entry) (ia : ℕ) → is_new (with_last chain last) ia ≡ false
    → (is_new chain ia ≡ false) ⊎ (last.ia ≡ ia)
unfolding is_new
old_longer chain last ia old =
    elim (or_cases (list_any (λ (entry : Entry). eqb entry.ia ia) chain.entries)
    (eqb last.ia ia || false)
    (sym (list_any-append (λ (entry : Entry). eqb entry.ia ia) chain.entries (last ∷ []))
    ∙ not-false _ old)) [
      | inl before ↦ inl (not_from_true _ before)
      | inr here ↦ elim (or_cases (eqb last.ia ia) false here) [
        | inl at ↦ inr (eqb-true last.ia ia at)
        | inr none ↦ absurd (true≢false (sym none))
      ]
    ]

pub new_of_one : (kind : SegKind) (now beta : ℕ) (entry : Entry) (ia : ℕ) → entry.ia ≢ ia
    → is_new (chain_of kind now beta (entry ∷ [])) ia ≡ true
unfolding is_new
new_of_one kind now beta entry ia other = not_from_false (eqb entry.ia ia || false)
    (or_from (eqb entry.ia ia) false (ne_eqb entry.ia ia other) refl)

pub old_of_one : (kind : SegKind) (now beta : ℕ) (entry : Entry) (ia : ℕ)
    → is_new (chain_of kind now beta (entry ∷ [])) ia ≡ false → entry.ia ≡ ia
unfolding is_new
old_of_one kind now beta entry ia old = elim (or_cases (eqb entry.ia ia) false (not-false _ old)) [
  | inl at ↦ eqb-true entry.ia ia at
  | inr none ↦ absurd (true≢false (sym none))
]

-- ---- calls that are done

abbrev okay : Chain → Result Chain BeaconFault
okay chain = Ok chain

pub comes : (n : Network) (beacon : Chain) (last : Entry) (far number : ℕ) (into : IfEntry)
    → last_of beacon ≡ Some last → far_end_in n last.ia last.cons_egress ≡ Ok (far, number)
    → interface_at n far number ≡ Ok into → into.up ≡ true → come_to n beacon far ≡ Ok number
unfolding come_to
comes n beacon last far number into is_last leads shown up =
    rw (is_last, leads, eq-eqb far far refl, shown, up) refl

-- a beacon that the network made, which comes to an AS that it has not passed
pub record IsBound (n : Network) (now : ℕ) (kind : SegKind) (first far : ℕ) (chain : Chain) : Type 0
  where
    pub kind_is : chain.kind ≡ kind
    pub begun : chain.timestamp ≡ now
    pub begins : BeginsAt first chain.entries
    pub known : (one : AsEntry) × (as_named n.ases far ≡ Some one)
    pub came : (ingress : ℕ) × (come_to n chain far ≡ Ok ingress)
    pub new : is_new chain far ≡ true

pub terminates : (n : Network) (now : ℕ) (kind : SegKind) (first far : ℕ) (chain : Chain)
    → IsBound n now kind first far chain
    → (last : Entry) × ((last.ia ≡ far) × (terminated_beacon n chain far ≡ Ok
    (with_last chain last)))
unfolding terminated_beacon
terminates n now kind first far chain bound =
    let one = bound.known.0 in
    let same = ia_of_named n.ases far one bound.known.1 in
    let new : is_new chain one.ia ≡ true = ap (is_new chain) same ∙ bound.new in
    (added_by one chain bound.came.0 0, (same, rw (bound.known.1, bound.came.1, new) refl))

goes : (kind : SegKind) (link : LinkKind) → link ≡ kind_at_a (class_of kind) → goes_on kind link
    ≡ true
goes Core link is = ap (goes_on Core) is
goes Intra link is = ap (goes_on Intra) is

begins_as : (kind : SegKind) (link : LinkKind) → link ≡ kind_at_a (class_of kind) → kind_over link
    ≡ kind
begins_as Core link is = ap kind_over is
begins_as Intra link is = ap kind_over is

-- what a beacon becomes that is sent by a way
pub record IsSent (n : Network) (now : ℕ) (kind : SegKind) (first : ℕ) (way : WayOut)
    (chain : Chain)
    : Type 0 where
  pub bound : IsBound n now kind first way.far chain
  pub few : length chain.entries ≤ 62

pub originates : (n : Network) (now beta : ℕ) (kind : SegKind) (way : WayOut)
    → IsOpen n (class_of kind) way
    → ((one : AsEntry) → as_named n.ases way.near ≡ Some one → one.core ≡ true)
    → (chain : Chain) × (entry : Entry)
    × ((originated_beacon n way.near way.egress now beta ≡ Ok chain)
    × ((chain ≡ chain_of kind now beta (entry ∷ [])) × ((entry.ia ≡ way.near)
    × IsSent n now kind way.near way chain)))
unfolding originated_beacon
originates n now beta kind way shows core =
    let one = shows.one in
    let same = ia_of_named n.ases way.near one shows.near_known in
    let kind_is = begins_as kind shows.out.kind shows.kind in
    let entry = entry_by one now beta 0 way.egress in
    let chain = chain_of kind now beta (entry ∷ []) in
    let made : originated_beacon n way.near way.egress now beta ≡ Ok chain =
    bind_from (ok_or (as_named n.ases way.near) NotCore) _ one _
    (ap (λ (o : Option AsEntry). ok_or o NotCore) shows.near_known)
    (bind_from (check one.core NotCore) _ tt _
    (ap (λ b. check b NotCore) (core one shows.near_known))
    (bind_from (or_else NoInterface (interface_at n way.near way.egress)) _ shows.out _
    (ap (or_else NoInterface) shows.shown)
    (bind_from (check shows.out.up LinkDown) _ tt _ (ap (λ b. check b LinkDown) shows.up)
    (ap (λ (k : SegKind). okay (chain_of k now beta (entry ∷ []))) kind_is)))) in
    let leads : far_end_in n entry.ia entry.cons_egress ≡ Ok (way.far, shows.number) =
    ap (λ ia. far_end_in n ia way.egress) same ∙ shows.leads in (
      chain,
      entry,
      (
        made,
        (
          refl,
          (
            same,
            record {
              bound = record {
                kind_is = refl;
                begun = refl;
                begins = record { entry = entry; later = []; is = refl; of = same };
                known = (shows.other, shows.far_known);
                came = (
                  shows.number,
                  comes n chain entry way.far shows.number shows.into refl leads
                      shows.far_shown shows.far_up,
                );
                new = new_of_one kind now beta entry way.far (λ at. shows.apart (sym same ∙ at));
              };
              few = omega arith;
            },
          ),
        ),
      ),
    )

pub extends : (n : Network) (now : ℕ) (kind : SegKind) (first : ℕ) (way : WayOut) (chain : Chain)
    → IsOpen n (class_of kind) way → IsBound n now kind first way.near chain
    → length chain.entries < 62 → is_new chain way.far ≡ true
    → (last : Entry) × ((last.ia ≡ way.near)
    × ((extended_beacon n chain way.near way.egress ≡ Ok (with_last chain last))
    × IsSent n now kind first way (with_last chain last)))
unfolding extended_beacon
extends n now kind first way chain shows bound few new =
    let one = bound.known.0 in
    let same = ia_of_named n.ases way.near one bound.known.1 in
    let here : is_new chain one.ia ≡ true = ap (is_new chain) same ∙ bound.new in
    let on : goes_on chain.kind shows.out.kind ≡ true =
    ap (λ (k : SegKind). goes_on k shows.out.kind) bound.kind_is ∙ goes kind shows.out.kind
    shows.kind in
    let short : nat_lt (length chain.entries) 62 ≡ true = lt-ltb _ _ few in
    let last = added_by one chain bound.came.0 way.egress in
    let next = with_last chain last in
    let made : extended_beacon n chain way.near way.egress ≡ Ok next =
    bind_from (ok_or (as_named n.ases way.near) NotHere) _ one _
    (ap (λ (o : Option AsEntry). ok_or o NotHere) bound.known.1)
    (bind_from (come_to n chain way.near) _ bound.came.0 _ bound.came.1
    (bind_from (check (is_new chain one.ia) Loop) _ tt _ (ap (λ b. check b Loop) here)
    (bind_from (check (nat_lt (length chain.entries) 62) TooLong) _ tt _
    (ap (λ b. check b TooLong) short)
    (bind_from (or_else NoInterface (interface_at n way.near way.egress)) _ shows.out _
    (ap (or_else NoInterface) shows.shown)
    (bind_from (check (goes_on chain.kind shows.out.kind) WrongKind) _ tt _
    (ap (λ b. check b WrongKind) on)
    (bind_from (check shows.out.up LinkDown) _ tt _ (ap (λ b. check b LinkDown) shows.up)
    refl)))))) in
    let leads : far_end_in n last.ia last.cons_egress ≡ Ok (way.far, shows.number) =
    ap (λ ia. far_end_in n ia way.egress) same ∙ shows.leads in (
      last,
      (
        same,
        (
          made,
          record {
            bound = record {
              kind_is = bound.kind_is;
              begun = bound.begun;
              begins = begins_longer first chain.entries last bound.begins;
              known = (shows.other, shows.far_known);
              came = (
                shows.number,
                comes n next last way.far shows.number shows.into (last_is chain last)
                    leads shows.far_shown shows.far_up,
              );
              new = new_longer chain last way.far new (λ at. shows.apart (sym same ∙ at));
            };
            few = (let longer = length_push chain.entries last in omega arith);
          },
        ),
      ),
    )
