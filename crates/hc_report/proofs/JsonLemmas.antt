-- What a report writes in JSON.
use Rattle.std.proofs.Common.{◌≡◌, ◌≤◌, ◌-◌, ℕ, false, List, [], ◌∷◌, Option, None, Some, Result, Ok, Err, IfOk, codes, length, option_and_then, ap, ◌∙◌, refl, subst, sym, arith, true≢false}
use Rattle.std.proofs.lemmas.Slice.Eq.{bytes_eq-Decides}
use Rattle.serde_json.specs.Data.{Data, Members, depth, members_depth, no_members, null, object, put}
use Rattle.serde_json.specs.Find.{as_object, get, get_member}
use Rattle.serde_json.specs.Read.{max_depth, read}
use Rattle.serde_json.specs.View.{view}
use Rattle.serde_json.specs.declared.value.Value.{Value}
use Rattle.serde_json.proofs.Views.{get_member-put, get_member-put_other}
use Rattle.hc_history.specs.declared.settings.Settings.{Settings}
use Rattle.hc_history.specs.declared.verdicts.Counts.{Counts}
use Rattle.hc_history.specs.declared.wrong.Ending.{Ending}
use Rattle.hc_figures.specs.Entries.{number_at, number_data, object_with, some_data}
use Rattle.hc_figures.specs.Nesting.{NestsTo}
use Rattle.hc_figures.proofs.EntryLemmas.{all_depth, all_there}
use Rattle.hc_figures.specs.declared.baseline.Baseline.{Baseline}
use Rattle.hc_figures.specs.Kinds.{Kind}
use Rattle.hc_figures.specs.Tallies.{CountsKinds}
use Rattle.hc_figures.specs.declared.counts.ReplyCounts.{ReplyCounts}
use Rattle.hc_figures.specs.declared.listed.ListedReplies.{ListedReplies}
use Rattle.hc_figures.specs.Figures.{HaveFigures, LeavesFigures, deepest, is_figure}
use Rattle.hc_figures.proofs.FigureLemmas.{leaves, leaves_on, left_figures}
use Rattle.hc_figures.proofs.ReadingLemmas.{report_read}
use Rattle.hc_report.specs.declared.counting.CountingReport.{CountingReport}
use Rattle.hc_report.specs.Counting.{HaveCounts}
use Rattle.hc_report.specs.Held.{SayHeld, SayHeldBy, gone_by, known_in}
use Rattle.hc_report.specs.Json.{WritesAll, WritesReport}
use Rattle.hc_report.specs.Made.{SaySettings, setting_entries, settings_members}

pub has_counts : (old new : Members) (value : Data) (kinds : List Kind) → new ≡ put (codes "baseline") value old → CountsKinds value kinds → HaveCounts new kinds
has_counts old new value kinds is counts =
    let there : get_member (codes "baseline") new ≡ Some value = ap (get_member (codes "baseline")) is ∙ get_member-put (codes "baseline") value old in
    (counts.counts, ap (option_and_then as_object) there ∙ counts.is, counts.are)

-- the text of what has the figures is read back, since it nests few levels deep
pub few_levels : (replies : ReplyCounts) (wrongs : ListedReplies) (ending : Ending) (counts : Option Counts) (ms : Members) → HaveFigures replies wrongs ending counts ms → depth (object ms) ≤ max_depth
few_levels replies wrongs ending counts ms have = let nest = have.nest in omega (arith, nest)

pub writes_report : (replies : ReplyCounts) (wrongs : ListedReplies) (ending : Ending) (counts : Option Counts) (text : List ℕ) (ms : Members)
    → HaveFigures replies wrongs ending counts ms → read text ≡ Some (object ms) → WritesReport text wrongs replies ending counts
writes_report replies wrongs ending counts text ms have reads = record {
  report = object ms;
  is_json = reads;
  is_report = report_read replies wrongs ending counts ms have;
}

-- ---- values that were made

-- whatever was made
pub some_value : {E : Type 0} (made : Result Value E) (n : ℕ) → IfOk made (NestsTo n) → (d : Data) × IfOk made (λ v. view v ≡ d) × (depth d ≤ n)
some_value (Ok v) n few = (view v, refl, few)
some_value (Err e) n few = (null, tt, omega arith)

-- and whatever says how many there are
pub counting_value : {E : Type 0} (made : Result Value E) (count : ℕ) → IfOk made (NestsTo 3) → IfOk made (λ v. get (codes "count") (view v) ≡ Some (number_data count))
    → (d : Data) × IfOk made (λ v. view v ≡ d) × (get (codes "count") d ≡ Some (number_data count)) × (depth d ≤ 3)
counting_value (Ok v) count few is = (view v, refl, is, few)
counting_value (Err e) count few is = (object_with (number_at (codes "count") count ∷ []), tt, refl, omega arith)

-- ---- what is put in behind the figures

pub figures_keep : (replies : ReplyCounts) (wrongs : ListedReplies) (ending : Ending) (counts : Option Counts) (name : List ℕ) (d : Data) (ms : Members) → is_figure name ≡ false
    → depth d ≤ deepest → HaveFigures replies wrongs ending counts ms → HaveFigures replies wrongs ending counts (put name d ms)
figures_keep replies wrongs ending counts name d ms other few have = left_figures replies wrongs ending counts ms (put name d ms) have (leaves name d ms (put name d ms) other few refl)

pub leaves_none : (ms : Members) → LeavesFigures ms ms
leaves_none ms = record { same = λ name is. refl; nest = λ q. q }

leaves_more : (old ms : Members) (name : List ℕ) (d : Data) → is_figure name ≡ false → depth d ≤ deepest → LeavesFigures old ms → LeavesFigures old (put name d ms)
leaves_more old ms name d other few left = leaves_on old ms (put name d ms) left (leaves name d ms (put name d ms) other few refl)

-- ---- what is said of a baseline

abbrev pub held_members : ℕ → Data → Data → Data → Members → Members
held_members known new other gone all =
    put (codes "gone") gone (put (codes "other_targets") other (put (codes "new") new (put (codes "known") (number_data known) all)))

pub held_leaves : (known : ℕ) (new other gone : Data) (all : Members) → depth new ≤ deepest → depth other ≤ deepest → depth gone ≤ deepest → LeavesFigures all (held_members known new other gone all)
held_leaves known new other gone all few_new few_other few_gone =
    leaves_more all _ (codes "gone") gone refl few_gone
    (leaves_more all _ (codes "other_targets") other refl few_other
    (leaves_more all _ (codes "new") new refl few_new (leaves_more all all (codes "known") (number_data known) refl (omega arith) (leaves_none all))))

pub says_held : (baseline : Baseline) (report : CountingReport) (known count gone_count : ℕ) (new other gone : Data) (all : Members) → known ≡ known_in baseline report.tally
    → count ≡ length report.wrongs.items - known_in baseline report.tally → gone_count ≡ gone_by baseline report.tally → get (codes "count") new ≡ Some (number_data count)
    → get (codes "count") gone ≡ Some (number_data gone_count) → SayHeld baseline report (held_members known new other gone all)
says_held baseline report known count gone_count new other gone all known_is count_is gone_is new_counts gone_counts =
    let there = all_there (number_at (codes "known") known ∷ (codes "new", new) ∷ (codes "other_targets", other) ∷ (codes "gone", gone) ∷ []) all refl in
    record {
      known = there.0 ∙ ap (λ (n : ℕ). Some (number_data n)) known_is;
      new = ap (option_and_then (get (codes "count"))) there.1.0 ∙ new_counts ∙ ap (λ (n : ℕ). Some (number_data n)) count_is;
      gone = ap (option_and_then (get (codes "count"))) there.1.1.1.0 ∙ gone_counts ∙ ap (λ (n : ℕ). Some (number_data n)) gone_is;
    }

pub held_by : (base : Option Baseline) (baseline : Baseline) (report : CountingReport) (ms : Members) → base ≡ Some baseline → SayHeld baseline report ms → SayHeldBy base report ms
held_by base baseline report ms is said = subst (λ (b : Option Baseline). SayHeldBy b report ms) (sym is) said

pub held_by_none : (base : Option Baseline) (report : CountingReport) (ms : Members) → base ≡ None → SayHeldBy base report ms
held_by_none base report ms is = subst (λ (b : Option Baseline). SayHeldBy b report ms) (sym is) tt

-- what stands there stays where a member of another name is put in
stays_there : (name other : List ℕ) (d : Data) (old new : Members) → ¬ (name ≡ other) → new ≡ put other d old → get_member name new ≡ get_member name old
stays_there name other d old new apart is = ap (get_member name) is ∙ get_member-put_other name other d old apart

-- a name that no member has which says what a baseline has
pub record IsApart (name : List ℕ) : Type 0 where
  pub known : ¬ (codes "known" ≡ name)
  pub new : ¬ (codes "new" ≡ name)
  pub gone : ¬ (codes "gone" ≡ name)

held_stays : (name : List ℕ) (baseline : Baseline) (report : CountingReport) (d : Data) (old new : Members) → IsApart name → new ≡ put name d old → SayHeld baseline report old → SayHeld baseline report new
held_stays name baseline report d old new apart is say = record {
  known = stays_there (codes "known") name d old new apart.known is ∙ say.known;
  new = ap (option_and_then (get (codes "count"))) (stays_there (codes "new") name d old new apart.new is) ∙ say.new;
  gone = ap (option_and_then (get (codes "count"))) (stays_there (codes "gone") name d old new apart.gone is) ∙ say.gone;
}

pub held_by_stays : (name : List ℕ) (base : Option Baseline) (report : CountingReport) (d : Data) (old new : Members) → IsApart name → new ≡ put name d old → SayHeldBy base report old
    → SayHeldBy base report new
held_by_stays name None report d old new apart is say = tt
held_by_stays name (Some baseline) report d old new apart is say = held_stays name baseline report d old new apart is say

-- the names of what is put in behind what is said of a baseline
pub apart_format : IsApart (codes "format")
apart_format = record { known = λ e. absurd cc; new = λ e. absurd cc; gone = λ e. absurd cc }

pub apart_targets : IsApart (codes "targets")
apart_targets = record { known = λ e. absurd cc; new = λ e. absurd cc; gone = λ e. absurd cc }

pub apart_settings : IsApart (codes "settings")
apart_settings = record { known = λ e. absurd cc; new = λ e. absurd cc; gone = λ e. absurd cc }

pub apart_baseline : IsApart (codes "baseline")
apart_baseline = record { known = λ e. absurd cc; new = λ e. absurd cc; gone = λ e. absurd cc }

-- a number, or null, doesn't nest
some_depth : (number : Option ℕ) → depth (some_data number) ≤ 0
some_depth None = omega arith
some_depth (Some n) = omega arith

-- ---- by which settings

pub settings_put : (settings : Settings) (old new : Members) → new ≡ put (codes "settings") (object (settings_members settings)) old → SaySettings settings new
settings_put settings old new is = ap (get_member (codes "settings")) is ∙ get_member-put (codes "settings") (object (settings_members settings)) old

settings_apart : ¬ (codes "settings" ≡ codes "baseline")
settings_apart = λ e. true≢false (sym ((bytes_eq-Decides (codes "settings") (codes "baseline")).1 e))

pub settings_stay : (settings : Settings) (d : Data) (old new : Members) → new ≡ put (codes "baseline") d old → SaySettings settings old → SaySettings settings new
settings_stay settings d old new is said = stays_there (codes "settings") (codes "baseline") d old new settings_apart is ∙ said

settings_depth : (settings : Settings) → depth (object (settings_members settings)) ≤ deepest
settings_depth settings =
    let few : members_depth (settings_members settings) ≤ 0 = all_depth (setting_entries settings) no_members 0 (
      omega arith,
      (
        omega arith,
        (
          omega arith,
          (
            omega arith,
            (
              omega arith,
              (
                omega arith,
                (
                  some_depth settings.allowed.default_lifetime,
                  (some_depth settings.allowed.grace, (omega arith, (omega arith, (omega arith, tt)))),
                ),
              ),
            ),
          ),
        ),
      ),
    ) (omega arith) in
    omega (arith, few)

-- ---- all that is said

-- but for the counts by kind
pub record SaysTold (report : CountingReport) (base : Option Baseline) (settings : Settings) (ending : Ending) (counts : Option Counts) (members : Members) : Type 0 where
  pub figures : HaveFigures report.report.replies report.report.wrongs ending counts members
  pub held : SayHeldBy base report members
  pub set : SaySettings settings members

pub told_put : (report : CountingReport) (base : Option Baseline) (settings : Settings) (ending : Ending) (counts : Option Counts) (format : Option ℕ) (targets : Data) (ms : Members)
    → HaveFigures report.report.replies report.report.wrongs ending counts ms → SayHeldBy base report ms → depth targets ≤ 1
    → SaysTold report base settings ending counts (put (codes "settings") (object (settings_members settings)) (put (codes "targets") targets (put (codes "format") (some_data format) ms)))
told_put report base settings ending counts format targets ms have say few =
    let flat = some_depth format in
    record {
      figures =
          figures_keep report.report.replies report.report.wrongs ending counts (codes "settings") (object (settings_members settings)) _ refl (settings_depth settings)
          (figures_keep report.report.replies report.report.wrongs ending counts (codes "targets") targets _ refl (omega (arith, few))
          (figures_keep report.report.replies report.report.wrongs ending counts (codes "format") (some_data format) ms refl (omega (arith, flat)) have));
      held =
          held_by_stays (codes "settings") base report (object (settings_members settings)) (put (codes "targets") targets (put (codes "format") (some_data format) ms)) _ apart_settings refl
          (held_by_stays (codes "targets") base report targets (put (codes "format") (some_data format) ms) _ apart_targets refl
          (held_by_stays (codes "format") base report (some_data format) ms _ apart_format refl say));
      set = settings_put settings (put (codes "targets") targets (put (codes "format") (some_data format) ms)) _ refl;
    }

pub all_figures : (report : CountingReport) (kinds : List Kind) (settings : Settings) (base : Option Baseline) (ending : Ending) (counts : Option Counts) (made : Data) (ms : Members)
    → SaysTold report base settings ending counts ms → CountsKinds made kinds → HaveFigures report.report.replies report.report.wrongs ending counts (put (codes "baseline") made ms)
all_figures report kinds settings base ending counts made ms told counted =
    let few = counted.nests in
    figures_keep report.report.replies report.report.wrongs ending counts (codes "baseline") made ms refl (omega (arith, few)) told.figures

pub writes_all : (report : CountingReport) (kinds : List Kind) (settings : Settings) (base : Option Baseline) (ending : Ending) (counts : Option Counts) (text : List ℕ) (made : Data) (ms : Members)
    → SaysTold report base settings ending counts ms → CountsKinds made kinds → read text ≡ Some (object (put (codes "baseline") made ms)) → WritesAll text report kinds settings base ending counts
writes_all report kinds settings base ending counts text made ms told counted reads = record {
  members = put (codes "baseline") made ms;
  is_json = reads;
  is_report = report_read report.report.replies report.report.wrongs ending counts _ (all_figures report kinds settings base ending counts made ms told counted);
  have_counts = has_counts ms (put (codes "baseline") made ms) made kinds refl counted;
  say_settings = settings_stay settings made ms _ refl told.set;
  say_held = held_by_stays (codes "baseline") base report made ms _ apart_baseline refl told.held;
}
