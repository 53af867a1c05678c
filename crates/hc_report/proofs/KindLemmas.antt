-- The kinds of wrong replies, as items are added to those among which they stand.
use Rattle.std.proofs.Common.{◌≡◌, ◌≤◌, ◌<◌, ◌-◌, ◌^◌, ◌++◌, ℕ, suc, List, [], ◌∷◌, Option, None, Some, Result, Ok, Err, IfOk, OnOk, inl, inr, drop, length, option_map, string_bytes, unwrap_or, ap, sym, ◌∙◌, refl, subst, arith}
use Rattle.std.proofs.lemmas.List.{append-nil, length-map, map-append}
use Rattle.hc_transcript.specs.Items.{Exchange, Item}
use Rattle.hc_transcript.specs.History.{next_position}
use Rattle.hc_history.specs.declared.reasons.Reason.{Reason}
use Rattle.hc_history.specs.declared.verdicts.Finding.{Finding}
use Rattle.hc_history.specs.declared.verdicts.Finding.TheVariants.{Right, Wrong}
use Rattle.hc_history.specs.declared.wrong.WrongReply.{WrongReply}
use Rattle.hc_history.specs.Claims.{Claim}
use Rattle.hc_history.specs.WrongReplies.{wrong_after}
use Rattle.hc_audit.specs.Told.{wrong_of}
use Rattle.hc_shown.specs.Octets.{octets_text}
use Rattle.hc_shown.specs.Values.{target_text}
use Rattle.hc_figures.specs.Kinds.{Kind}
use Rattle.hc_figures.specs.Tallies.{HasCounted}
use Rattle.hc_figures.specs.declared.tally.Tally.{Tally}
use Rattle.hc_report.specs.Counting.{HasCountedIn, StandUpTo, TellsAllOf}
use Rattle.hc_report.specs.declared.counting.CountingReport.{CountingReport}
use Rattle.hc_report.specs.declared.report.Report.{Report}
use Rattle.hc_figures.specs.declared.listed.ListedReply.{ListedReply}
use Rattle.hc_figures.specs.declared.listed.ShownRequest.{ShownRequest}
use Rattle.hc_figures.specs.Listed.{ListsNext}
use Rattle.hc_past.specs.Standing.{answered, newest_exchange}
use Rattle.hc_report.specs.Kinds.{AreShownIn, IsShownIn, IsShownOf, kind_in, kind_to, kinds_in, method_shown}
use Rattle.hc_figures.specs.Requests.{kind_text}
use Rattle.hc_report.specs.Told.{TellsOf}

-- ---- what is shown of a request

-- of none
pub shown_nothing : (exchange : Option Exchange) (claim : Exchange → Claim) (shown : ShownRequest) → None ≡ option_map claim exchange
    → string_bytes shown.method ≡ [] → string_bytes shown.target ≡ [] → IsShownOf exchange shown
shown_nothing None claim shown none method target = record { method = method; target = target }
shown_nothing (Some exchange) claim shown none method target = absurd cc

-- of that of a claim
pub shown_claim : (exchange : Option Exchange) (claims : Exchange → Claim) (claim : Claim) (shown : ShownRequest) → Some claim ≡ option_map claims exchange
    → ((e : Exchange) → (claims e).request.method ≡ e.request.method) → ((e : Exchange) → (claims e).target ≡ e.target)
    → string_bytes shown.method ≡ octets_text claim.request.method → string_bytes shown.target ≡ target_text claim.target → IsShownOf exchange shown
shown_claim None claims claim shown is method_is target_is method target = absurd cc
shown_claim (Some exchange) claims claim shown is method_is target_is method target =
    let same : claim ≡ claims exchange = ap (λ (o : Option Claim). unwrap_or o claim) is in
    record {
      method = method ∙ ap (λ (c : Claim). octets_text c.request.method) same ∙ ap octets_text (method_is exchange);
      target = target ∙ ap (λ (c : Claim). target_text c.target) same ∙ ap target_text (target_is exchange);
    }

-- if something is shown
pub shown_claims : {E : Type 0} (result : Result ShownRequest E) (exchange : Option Exchange) (claims : Exchange → Claim) (claim : Claim) → Some claim ≡ option_map claims exchange
    → ((e : Exchange) → (claims e).request.method ≡ e.request.method) → ((e : Exchange) → (claims e).target ≡ e.target)
    → IfOk result (λ shown. string_bytes shown.method ≡ octets_text claim.request.method) → IfOk result (λ shown. string_bytes shown.target ≡ target_text claim.target)
    → IfOk result (λ shown. IsShownOf exchange shown)
shown_claims (Ok shown) exchange claims claim is method_is target_is method target = shown_claim exchange claims claim shown is method_is target_is method target
shown_claims (Err error) exchange claims claim is method_is target_is method target = tt

-- the kind of a reply to what is shown so
pub kind_shown : (exchange : Option Exchange) (shown : ShownRequest) (why : Reason) → IsShownOf exchange shown
    → kind_text why (string_bytes shown.method) (string_bytes shown.target) ≡ kind_to exchange why
kind_shown exchange shown why is =
    ap (λ (m : List ℕ). kind_text why m (string_bytes shown.target)) is.method ∙ ap (kind_text why (method_shown exchange)) is.target

-- ---- what is told of all wrong replies

-- behind one that is right
pub told_right : (report new : CountingReport) (wrongs : List WrongReply) (position : ℕ) (finding : Finding) → finding ≡ Right → TellsAllOf report wrongs
    → TellsOf new.report (wrongs ++ wrong_of position finding) → new.wrongs.items ≡ report.wrongs.items → TellsAllOf new (wrongs ++ wrong_of position finding)
told_right report new wrongs position finding is tells told same = record {
  told = told;
  all = same ∙ tells.all ∙ sym (append-nil wrongs) ∙ ap (λ (f : Finding). wrongs ++ wrong_of position f) (sym is);
}

-- and behind one that is wrong
pub told_wrong : (report new : CountingReport) (before : Report) (wrongs : List WrongReply) (position : ℕ) (why : Reason) (finding : Finding) → finding ≡ Wrong why
    → TellsAllOf report wrongs → TellsOf before (wrongs ++ wrong_of position finding) → new.report ≡ before
    → new.wrongs.items ≡ report.wrongs.items ++ record { position = position; reason = why } ∷ [] → TellsAllOf new (wrongs ++ wrong_of position finding)
told_wrong report new before wrongs position why finding is tells told same all = record {
  told = subst (λ (r : Report). TellsOf r (wrongs ++ wrong_of position finding)) (sym same) told;
  all = all ∙ ap (λ (ws : List WrongReply). ws ++ record { position = position; reason = why } ∷ []) tells.all
      ∙ ap (λ (f : Finding). wrongs ++ wrong_of position f) (sym is);
}

-- ---- where they stand

stand_on : (m n : ℕ) (wrongs : List WrongReply) → m ≤ n → StandUpTo m wrongs → StandUpTo n wrongs
stand_on m n [] few stand = tt
stand_on m n (wrong ∷ wrongs) few stand = let here = stand.0 in (omega (arith, few, here), stand_on m n wrongs few stand.1)

stand_one : (n : ℕ) (wrongs : List WrongReply) (wrong : WrongReply) → StandUpTo n wrongs → wrong.position ≤ n → StandUpTo n (wrongs ++ wrong ∷ [])
stand_one n [] wrong stand few = (few, tt)
stand_one n (first ∷ wrongs) wrong stand few = (stand.0, stand_one n wrongs wrong stand.1 few)

-- one item more leaves the kinds of those that stand before it
kind_later : (item : Item) (h : List Item) (wrong : WrongReply) → wrong.position ≤ length h → kind_in (item ∷ h) wrong ≡ kind_in h wrong
kind_later item h wrong few =
    let e : length (item ∷ h) - wrong.position ≡ suc (length h - wrong.position) = omega (arith, few) in
    ap (λ (n : ℕ). kind_to (newest_exchange (drop n (item ∷ h))) wrong.reason) e

kinds_later : (item : Item) (h : List Item) (wrongs : List WrongReply) → StandUpTo (length h) wrongs → kinds_in (item ∷ h) wrongs ≡ kinds_in h wrongs
kinds_later item h [] stand = refl
kinds_later item h (wrong ∷ wrongs) stand = rw (kind_later item h wrong stand.0, kinds_later item h wrongs stand.1) refl

-- and the newest is of its own
kind_newest : (item : Item) (h : List Item) (why : Reason) → kind_in (item ∷ h) (wrong_after h why) ≡ kind_to (answered item h) why
kind_newest item h why =
    let e : length (item ∷ h) - next_position h ≡ 0 = omega arith in
    ap (λ (n : ℕ). kind_to (newest_exchange (drop n (item ∷ h))) why) e

pub counted_later : (report new : CountingReport) (item : Item) (h : List Item) → new.wrongs.items ≡ report.wrongs.items → new.tally ≡ report.tally
    → HasCountedIn report h → HasCountedIn new (item ∷ h)
counted_later report new item h wrongs tally counted = record {
  stand = subst (StandUpTo (length (item ∷ h))) (sym wrongs) (stand_on (length h) (length (item ∷ h)) report.wrongs.items (omega arith) counted.stand);
  counts =
      subst (λ (ws : List WrongReply). HasCounted new.tally (kinds_in (item ∷ h) ws)) (sym wrongs)
      (subst (λ (t : Tally). HasCounted t (kinds_in (item ∷ h) report.wrongs.items)) (sym tally)
      (subst (λ (ks : List Kind). HasCounted report.tally ks) (sym (kinds_later item h report.wrongs.items counted.stand)) counted.counts));
}

pub counted_one : (report new : CountingReport) (item : Item) (h : List Item) (why : Reason) (wrong : WrongReply) (kind : Kind) → HasCountedIn report h
    → wrong ≡ wrong_after h why → kind ≡ kind_to (answered item h) why → new.wrongs.items ≡ report.wrongs.items ++ wrong ∷ []
    → ((kinds : List Kind) → HasCounted report.tally kinds → HasCounted new.tally (kinds ++ kind ∷ [])) → HasCountedIn new (item ∷ h)
counted_one report new item h why wrong kind counted is kind_is all takes =
    let before = report.wrongs.items in
    let later = kinds_later item h before counted.stand in
    let newest : kind_in (item ∷ h) wrong ≡ kind = ap (kind_in (item ∷ h)) is ∙ kind_newest item h why ∙ sym kind_is in
    let kinds : kinds_in (item ∷ h) (before ++ wrong ∷ []) ≡ kinds_in h before ++ kind ∷ [] =
    map-append (kind_in (item ∷ h)) before (wrong ∷ []) ∙ rw (later, newest) refl in
    let place : wrong.position ≤ length (item ∷ h) = subst (λ (w : WrongReply). w.position ≤ length (item ∷ h)) (sym is) (omega arith) in
    record {
      stand = subst (StandUpTo (length (item ∷ h))) (sym all) (stand_one (length (item ∷ h)) before wrong (stand_on (length h) (length (item ∷ h)) before (omega arith) counted.stand) place);
      counts =
          subst (λ (ws : List WrongReply). HasCounted new.tally (kinds_in (item ∷ h) ws)) (sym all)
          (subst (λ (ks : List Kind). HasCounted new.tally ks) (sym kinds) (takes (kinds_in h before) counted.counts));
    }

-- what holds of the kinds that it has counted holds of those of the wrong replies that it tells
pub by_kinds : (P : List Kind → Type 0) (report : CountingReport) (h : List Item) (wrongs : List WrongReply) → TellsAllOf report wrongs → HasCountedIn report h
    → length report.wrongs.items < 2 ^ 64 → ((kinds : List Kind) → HasCounted report.tally kinds → length kinds < 2 ^ 64 → P kinds) → P (kinds_in h wrongs)
by_kinds P report h wrongs told counted few holds =
    subst (λ (ws : List WrongReply). P (kinds_in h ws)) told.all
    (holds (kinds_in h report.wrongs.items) counted.counts (subst (λ (n : ℕ). n < 2 ^ 64) (sym (length-map report.wrongs.items (kind_in h))) few))

-- ---- what is shown of the requests of those that are listed

-- one item more leaves what stands before it
shown_one : (item : Item) (h : List Item) (reply : ListedReply) → IsShownIn h reply → IsShownIn (item ∷ h) reply
shown_one item h reply shown =
    let few = shown.stands in
    let e : suc (length h - reply.wrong.position) ≡ length (item ∷ h) - reply.wrong.position = omega (arith, few) in
    record {
      stands = omega (arith, few);
      shown = subst (λ (n : ℕ). IsShownOf (newest_exchange (drop n (item ∷ h))) reply.request) e shown.shown;
    }

pub shown_later : (item : Item) (h : List Item) (replies : List ListedReply) → AreShownIn h replies → AreShownIn (item ∷ h) replies
shown_later item h [] shown = tt
shown_later item h (reply ∷ replies) shown = (shown_one item h reply shown.0, shown_later item h replies shown.1)

shown_behind : (h : List Item) (replies : List ListedReply) (reply : ListedReply) → AreShownIn h replies → IsShownIn h reply → AreShownIn h (replies ++ reply ∷ [])
shown_behind h [] reply shown one = (one, tt)
shown_behind h (first ∷ replies) reply shown one = (shown.0, shown_behind h replies reply shown.1 one)

-- the newest is listed with what is shown of its request
pub shown_next : (item : Item) (h : List Item) (old new : List ListedReply) (wrong : WrongReply) (request : ShownRequest) → AreShownIn h old → wrong.position ≡ next_position h
    → IsShownOf (answered item h) request → ListsNext old new wrong request → AreShownIn (item ∷ h) new
shown_next item h old new wrong request shown place is (inl same) = subst (AreShownIn (item ∷ h)) (sym same) (shown_later item h old shown)
shown_next item h old new wrong request shown place is (inr next) =
    let reply = next.0 in
    let at : reply.wrong.position ≡ next_position h = ap (λ (w : WrongReply). w.position) next.2 ∙ place in
    let newest : 0 ≡ length (item ∷ h) - reply.wrong.position = omega (arith, at) in
    let one : IsShownIn (item ∷ h) reply = record {
      stands = omega (arith, at);
      shown = subst (λ (n : ℕ). IsShownOf (newest_exchange (drop n (item ∷ h))) reply.request) newest (record { method = next.3.method ∙ is.method; target = next.3.target ∙ is.target });
    } in
    subst (AreShownIn (item ∷ h)) (sym next.1) (shown_behind (item ∷ h) old reply (shown_later item h old shown) one)

-- ---- results

pub always : {T E P : Type 0} (r : Result T E) → P → OnOk r P
always (Ok x) p = p
always (Err e) p = tt
