-- Where the next hop field stands, by the lengths of the segments.
use Rattle.std.proofs.Common.{◌≡◌, ◌≢◌, ℕ, ◌+◌, ◌<◌, ◌≤◌, ◌⊎◌, inl, inr, refl, sym, ◌∙◌, ap, arith}
use Rattle.std.proofs.lemmas.Bool.{cases_lt}
use Rattle.std.proofs.lemmas.Grind.{common_steps}
use Rattle.path_header.specs.declared.lens.SegLens.{SegLens}
use Rattle.path_header.specs.Value.{AreLens, hop_count, info_count, segment_at}

in_first : (l : SegLens) (hop : ℕ) → hop < l.first → segment_at l hop ≡ 0
in_first l hop below = grind (arith, common_steps)

in_second : (l : SegLens) (hop : ℕ) → l.first ≤ hop → hop < l.first + l.second → segment_at l hop ≡ 1
in_second l hop from below = grind (arith, common_steps)

in_third : (l : SegLens) (hop : ℕ) → l.first + l.second ≤ hop → segment_at l hop ≡ 2
in_third l hop from = grind (arith, common_steps)

-- a hop field that has a next one stands before the last of its segment, or at it
pub record IsMovedOn (l : SegLens) (inf hop : ℕ) : Type 0 where
  pub here : inf ≡ segment_at l hop
  pub next : inf ≡ segment_at l (hop + 1)
  pub more : hop + 1 < hop_count l
  pub segment : inf < info_count l

place : (l : SegLens) (hop : ℕ) → (hop < l.first) ⊎ ((l.first ≤ hop) × (hop < l.first + l.second) ⊎ (l.first + l.second ≤ hop))
place l hop = elim (cases_lt hop l.first) [
  | inl w ↦ inl w
  | inr w ↦ inr (elim (cases_lt hop (l.first + l.second)) [ inl v ↦ inl (w, v) | inr v ↦ inr v ])
]

-- the numbers of a segment and a hop field, for omega: the one is the place of the other
segment_below : (l : SegLens) (hop : ℕ) → AreLens l → hop < hop_count l → segment_at l hop < info_count l
segment_below l hop lens below = elim (place l hop) [
  | inl w ↦ rw (in_first l hop w) (let some = lens.some in omega arith)
  | inr v ↦ elim v [
    | inl w ↦ rw (in_second l hop w.0 w.1) (let some = lens.some in omega arith)
    | inr w ↦ rw (in_third l hop w) (let some = lens.some in let no_gap : l.second ≢ 0 = λ none. (let end : l.third ≡ 0 = lens.no_gap none in omega arith) in omega arith)
  ]
]

pub stayed_on : (l : SegLens) (hop : ℕ) → AreLens l → hop + 1 < hop_count l → segment_at l (hop + 1) ≡ segment_at l hop → IsMovedOn l (segment_at l hop) hop
stayed_on l hop lens more same = record { here = refl; next = sym same; more = more; segment = segment_below l hop lens (omega arith) }

-- where the next hop field is the first of another segment
moved : (l : SegLens) (hop inf : ℕ) → AreLens l → hop + 2 < hop_count l → segment_at l (hop + 1) ≡ inf → segment_at l (hop + 2) ≡ inf → IsMovedOn l inf (hop + 1)
moved l hop inf lens more here next =
    let two : hop + 1 + 1 ≡ hop + 2 = omega arith in
    record {
      here = sym here;
      next = sym next ∙ ap (segment_at l) (sym two);
      more = omega arith;
      segment = let below = segment_below l (hop + 1) lens (omega arith) in omega (arith, below, here);
    }

pub switched_on : (l : SegLens) (hop : ℕ) → AreLens l → l.first ≢ 1 → l.second ≢ 1 → l.third ≢ 1 → hop + 1 < hop_count l → segment_at l (hop + 1) ≢ segment_at l hop
    → IsMovedOn l (segment_at l hop + 1) (hop + 1)
switched_on l hop lens first second third more other = elim (place l hop) [
  | inl w ↦ elim (place l (hop + 1)) [
    | inl v ↦ absurd (other (in_first l (hop + 1) v ∙ sym (in_first l hop w)))
    | inr u ↦ elim u [
      | inl v ↦ rw (in_first l hop w) (moved l hop 1 lens (omega arith) (in_second l (hop + 1) v.0 v.1) (in_second l (hop + 2) (omega arith) (omega arith)))
      | inr v ↦ absurd (let none : l.second ≡ 0 = omega arith in let end : l.third ≡ 0 = lens.no_gap none in omega arith)
    ]
  ]
  | inr t ↦ elim t [
    | inl w ↦ elim (place l (hop + 1)) [
      | inl v ↦ absurd (omega arith)
      | inr u ↦ elim u [
        | inl v ↦ absurd (other (in_second l (hop + 1) v.0 v.1 ∙ sym (in_second l hop w.0 w.1)))
        | inr v ↦ rw (in_second l hop w.0 w.1) (moved l hop 2 lens (omega arith) (in_third l (hop + 1) v) (in_third l (hop + 2) (omega arith)))
      ]
    ]
    | inr w ↦ absurd (other (in_third l (hop + 1) (omega arith) ∙ sym (in_third l hop w)))
  ]
]
