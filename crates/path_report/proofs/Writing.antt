-- Lines of pairs that are written one after another, and what was written when a fault came.
use Rattle.std.proofs.Common.{◌≡◌, ℕ, ◌+◌, ◌<◌, List, [], ◌∷◌, ◌++◌, Option, get_or, length, take, drop, refl, sym, ap, ◌∙◌, subst, inl, inr}
use Rattle.std.specs.Prelude.{flat_map}
use Rattle.std.specs.Io.KnownBytes.{Appends}
use Rattle.std.proofs.KnownBytes.{Appends-nil, Appends-trans}
use Rattle.std.proofs.Math.Seq.{take-append-add, take-length}
use Rattle.std.proofs.lemmas.List.{append-nil, flat_map_more, map-append, take-append-drop, take_more}
use Rattle.std.proofs.lemmas.List.Elements.{All-append, All-cons, All-nil}
use Rattle.streams.specs.Streams.{AppendsFront}
use Rattle.network_core.specs.Value.{NetValue}
use Rattle.path_report.specs.declared.pair.AsPair.{AsPair}
use Rattle.path_report.specs.Pair.{PairValue, IsPairReport}
use Rattle.path_report.specs.Report.{ReportOptionsValue, IsReport, BeginsLines, BeginsReport, pair_text, pairs_of}
use Rattle.path_report.specs.inner.Named.{IsSummary}
use Rattle.path_report.specs.inner.Reports.{BeginsLine, WroteLine, WroteLines}

-- the pairs of one AS more
pub flat_next : {X A : Type 0} (f : X → List A) (xs : List X) (i : ℕ) (x : X) → i < length xs → x ≡ get_or xs i x
    → flat_map f (take (i + 1) xs) ≡ flat_map f (take i xs) ++ f x
flat_next f xs i x within is =
    ap (flat_map f) (take_more xs i x within ∙ ap (λ it. take i xs ++ it ∷ []) (sym is))
    ∙ sym (flat_map_more f [] (take i xs) x)

-- no line was written yet
pub wrote_none : (net : NetValue) (wanted : ReportOptionsValue) (held : Option (List ℕ))
    → WroteLines net wanted [] [] held held
wrote_none net wanted held = record {
  pairs_are = refl;
  each = All-nil (IsPairReport net wanted.rules wanted.limit);
  kept = Appends-nil held;
}

-- a line more
pub wrote_next : (net : NetValue) (wanted : ReportOptionsValue) (pairs : List AsPair) (i : ℕ) (pair : AsPair)
    (reports new : List PairValue) (report : PairValue) (held mid holds : Option (List ℕ))
    → i < length pairs → pair ≡ get_or pairs i pair
    → WroteLines net wanted (take i pairs) reports held mid
    → WroteLine net wanted pair report mid holds
    → new ≡ reports ++ report ∷ []
    → WroteLines net wanted (take (i + 1) pairs) new held holds
wrote_next net wanted pairs i pair reports new report held mid holds within is before wrote added =
    let holds_of : PairValue → Type 0 = IsPairReport net wanted.rules wanted.limit in
    let next : take (i + 1) pairs ≡ take i pairs ++ pair ∷ [] =
    take_more pairs i pair within ∙ ap (λ it. take i pairs ++ it ∷ []) (sym is) in
    subst (λ all. WroteLines net wanted (take (i + 1) pairs) all held holds) (sym added)
    (record {
      pairs_are = map-append (λ one. one.pair) reports (report ∷ [])
          ∙ ap (λ front. front ++ report.pair ∷ []) before.pairs_are
          ∙ ap (λ one. take i pairs ++ one ∷ []) wrote.pair_is ∙ sym next;
      each = All-append holds_of reports (report ∷ []) before.each
          (All-cons holds_of report [] wrote.is (All-nil holds_of));
      kept = subst (λ text. Appends held holds text) (flat_map_more (pair_text wanted.json) [] reports report)
          (Appends-trans held mid holds (flat_map (pair_text wanted.json) reports) (pair_text wanted.json report) before.kept wrote.kept);
    })

-- what was written of these lines begins a report
lines_begin : (net : NetValue) (wanted : ReportOptionsValue) (pairs later : List AsPair) (reports : List PairValue)
    (held holds : Option (List ℕ)) → pairs ++ later ≡ pairs_of wanted net.network.ases
    → WroteLines net wanted pairs reports held holds
    → (text : List ℕ) × (Appends held holds text × BeginsLines net wanted text)
lines_begin net wanted pairs later reports held holds all wrote = (
  flat_map (pair_text wanted.json) reports,
  (
    wrote.kept,
    record {
      reports = reports;
      later = later;
      pairs = ap (λ front. front ++ later) wrote.pairs_are ∙ all;
      each = wrote.each;
      most = length (flat_map (pair_text wanted.json) reports);
      says = sym (take-length (flat_map (pair_text wanted.json) reports));
    },
  ),
)

pub some_begin : (net : NetValue) (wanted : ReportOptionsValue) (pairs : List AsPair) (i : ℕ) (reports : List PairValue)
    (held holds : Option (List ℕ)) → pairs ≡ pairs_of wanted net.network.ases
    → WroteLines net wanted (take i pairs) reports held holds
    → (text : List ℕ) × (Appends held holds text × BeginsLines net wanted text)
some_begin net wanted pairs i reports held holds all =
    lines_begin net wanted (take i pairs) (drop i pairs) reports held holds (take-append-drop i pairs ∙ all)

pub none_begin : (net : NetValue) (wanted : ReportOptionsValue) (held : Option (List ℕ))
    → (text : List ℕ) × (Appends held held text × BeginsLines net wanted text)
none_begin net wanted held =
    lines_begin net wanted [] (pairs_of wanted net.network.ases) [] held held refl (wrote_none net wanted held)

-- a part of a line behind them
part_behind : (net : NetValue) (wanted : ReportOptionsValue) (pairs : List AsPair) (i : ℕ) (pair : AsPair)
    (reports : List PairValue) (held mid holds : Option (List ℕ)) (part : List ℕ)
    → pairs ≡ pairs_of wanted net.network.ases → i < length pairs → pair ≡ get_or pairs i pair
    → WroteLines net wanted (take i pairs) reports held mid → Appends mid holds part
    → BeginsLine net wanted pair part
    → (text : List ℕ) × (Appends held holds text × BeginsLines net wanted text)
part_behind net wanted pairs i pair reports held mid holds part all within is before kept (inl none) = (
  flat_map (pair_text wanted.json) reports ++ part,
  (
    Appends-trans held mid holds (flat_map (pair_text wanted.json) reports) part before.kept kept,
    record {
      reports = reports;
      later = drop i pairs;
      pairs = ap (λ front. front ++ drop i pairs) before.pairs_are ∙ take-append-drop i pairs ∙ all;
      each = before.each;
      most = length (flat_map (pair_text wanted.json) reports);
      says = ap (λ it. flat_map (pair_text wanted.json) reports ++ it) none ∙ append-nil (flat_map (pair_text wanted.json) reports)
          ∙ sym (take-length (flat_map (pair_text wanted.json) reports));
    },
  ),
)
part_behind net wanted pairs i pair reports held mid holds part all within is before kept (inr (report, (true_of, (of_pair, (most, says))))) =
    let holds_of : PairValue → Type 0 = IsPairReport net wanted.rules wanted.limit in
    let next : take (i + 1) pairs ≡ take i pairs ++ pair ∷ [] =
    take_more pairs i pair within ∙ ap (λ it. take i pairs ++ it ∷ []) (sym is) in (
      flat_map (pair_text wanted.json) reports ++ part,
      (
        Appends-trans held mid holds (flat_map (pair_text wanted.json) reports) part before.kept kept,
        record {
          reports = reports ++ report ∷ [];
          later = drop (i + 1) pairs;
          pairs = ap (λ front. front ++ drop (i + 1) pairs) (map-append (λ one. one.pair) reports (report ∷ [])
              ∙ ap (λ front. front ++ report.pair ∷ []) before.pairs_are
              ∙ ap (λ one. take i pairs ++ one ∷ []) of_pair ∙ sym next)
              ∙ take-append-drop (i + 1) pairs ∙ all;
          each = All-append holds_of reports (report ∷ []) before.each
              (All-cons holds_of report [] true_of (All-nil holds_of));
          most = length (flat_map (pair_text wanted.json) reports) + most;
          says = ap (λ it. flat_map (pair_text wanted.json) reports ++ it) says
              ∙ sym (take-append-add (flat_map (pair_text wanted.json) reports) (pair_text wanted.json report) most)
              ∙ ap (take (length (flat_map (pair_text wanted.json) reports) + most)) (flat_map_more (pair_text wanted.json) [] reports report);
        },
      ),
    )

pub begun_behind : (net : NetValue) (wanted : ReportOptionsValue) (pairs : List AsPair) (i : ℕ) (pair : AsPair)
    (reports : List PairValue) (held mid holds : Option (List ℕ))
    → pairs ≡ pairs_of wanted net.network.ases → i < length pairs → pair ≡ get_or pairs i pair
    → WroteLines net wanted (take i pairs) reports held mid
    → (part : List ℕ) × (Appends mid holds part × BeginsLine net wanted pair part)
    → (text : List ℕ) × (Appends held holds text × BeginsLines net wanted text)
begun_behind net wanted pairs i pair reports held mid holds all within is before (part, (kept, begun)) =
    part_behind net wanted pairs i pair reports held mid holds part all within is before kept begun

-- ---- the links behind all lines

report_is : (net : NetValue) (wanted : ReportOptionsValue) (reports : List PairValue) (ranking : List ℕ)
    (held holds : Option (List ℕ)) → WroteLines net wanted (pairs_of wanted net.network.ases) reports held holds
    → IsSummary wanted.json net.network.links reports ranking
    → IsReport net wanted (flat_map (pair_text wanted.json) reports ++ ranking)
report_is net wanted reports ranking held holds wrote summary = record {
  reports = reports;
  pairs = wrote.pairs_are;
  each = wrote.each;
  ranked = summary.0;
  ranking = summary.1.0;
  says = ap (λ last. flat_map (pair_text wanted.json) reports ++ last) summary.1.1;
}

-- all is written
pub report_written : (net : NetValue) (wanted : ReportOptionsValue) (reports : List PairValue) (ranking : List ℕ)
    (held mid holds : Option (List ℕ)) → WroteLines net wanted (pairs_of wanted net.network.ases) reports held mid
    → IsSummary wanted.json net.network.links reports ranking → Appends mid holds ranking
    → (text : List ℕ) × (Appends held holds text × IsReport net wanted text)
report_written net wanted reports ranking held mid holds wrote summary kept = (
  flat_map (pair_text wanted.json) reports ++ ranking,
  (
    Appends-trans held mid holds (flat_map (pair_text wanted.json) reports) ranking wrote.kept kept,
    report_is net wanted reports ranking held mid wrote summary,
  ),
)

-- a part of the links is
pub report_begun : (net : NetValue) (wanted : ReportOptionsValue) (reports : List PairValue) (ranking : List ℕ)
    (held mid holds : Option (List ℕ)) → WroteLines net wanted (pairs_of wanted net.network.ases) reports held mid
    → IsSummary wanted.json net.network.links reports ranking → AppendsFront mid holds ranking
    → (text : List ℕ) × (Appends held holds text × BeginsReport net wanted text)
report_begun net wanted reports ranking held mid holds wrote summary (most, kept) = (
  flat_map (pair_text wanted.json) reports ++ take most ranking,
  (
    Appends-trans held mid holds (flat_map (pair_text wanted.json) reports) (take most ranking) wrote.kept kept,
    inr (
      flat_map (pair_text wanted.json) reports ++ ranking,
      (
        report_is net wanted reports ranking held mid wrote summary,
        (
          length (flat_map (pair_text wanted.json) reports) + most,
          sym (take-append-add (flat_map (pair_text wanted.json) reports) ranking most),
        ),
      ),
    ),
  ),
)

-- none is
pub report_without : (net : NetValue) (wanted : ReportOptionsValue) (reports : List PairValue)
    (held mid : Option (List ℕ)) → WroteLines net wanted (pairs_of wanted net.network.ases) reports held mid
    → (text : List ℕ) × (Appends held mid text × BeginsReport net wanted text)
report_without net wanted reports held mid wrote =
    let (text, (kept, begun)) = lines_begin net wanted (pairs_of wanted net.network.ases) [] reports held mid
    (append-nil (pairs_of wanted net.network.ases)) wrote in
    (text, (kept, inl begun))

pub begins : (net : NetValue) (wanted : ReportOptionsValue) (held holds : Option (List ℕ))
    → (text : List ℕ) × (Appends held holds text × BeginsLines net wanted text)
    → (text : List ℕ) × (Appends held holds text × BeginsReport net wanted text)
begins net wanted held holds (text, (kept, begun)) = (text, (kept, inl begun))
