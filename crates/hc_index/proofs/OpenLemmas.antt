-- The open exchanges by their numbers, and their windows.
use Rattle.std.proofs.Common.{◌≡◌, ℕ, Bool, true, false, not, cond, eqb, List, [], ◌∷◌, ◌++◌, Option, Some, None, find, filter, map, refl, ap, sym, ◌∙◌, subst, inl, inr, eq-eqb}
use Rattle.std.specs.Option.{option_map}
use Rattle.std.proofs.lemmas.Bool.{ne_eqb, eqb-true, cases_Bool, cases_eq}
use Rattle.hc_head.specs.declared.head.ResponseHead.{ResponseHead}
use Rattle.hc_framing.specs.declared.message.Message.{Message}
use Rattle.hc_transcript.specs.declared.format.Format.{Format}
use Rattle.hc_transcript.specs.declared.line.ToldCause.{ToldCause}
use Rattle.hc_transcript.specs.Records.{told_in}
use Rattle.hc_transcript.specs.Items.{Exchange, Forward}
use Rattle.hc_history.specs.Seen.{WindowResponse}
use Rattle.hc_history.specs.Noting.{added_to_window}
use Rattle.hc_index.specs.declared.kept.WatchedExchange.{WatchedExchange}
use Rattle.hc_index.specs.Lists.{watched_exchange, open_in, window_of, Watched, watched, watched_answered}

-- ---- closing

-- those of other numbers
abbrev pub others : ℕ → List WatchedExchange → List WatchedExchange
others number exchanges = filter (λ watched. not (eqb watched.exchange.number number)) exchanges

none_of_it : (number : ℕ) (xs : List WatchedExchange) → open_in number (others number xs) ≡ None
none_of_it number [] = refl
none_of_it number (x ∷ xs) =
    elim (cases_Bool (eqb x.exchange.number number)) [ inl same ↦ rw same (none_of_it number xs) | inr other ↦ rw (other, other) (none_of_it number xs) ]

other_kept : (x : WatchedExchange) (xs kept : List WatchedExchange) (number e : ℕ) (b : Bool) → (number ≡ e → ⊥) → eqb x.exchange.number number ≡ b
    → open_in e kept ≡ open_in e xs → open_in e (cond (not b) (x ∷ kept) kept) ≡ open_in e (x ∷ xs)
other_kept x xs kept number e true ne is same = rw (ne_eqb x.exchange.number e (λ k. ne (sym (eqb-true x.exchange.number number is) ∙ k))) same
other_kept x xs kept number e false ne is same = ap (cond (eqb x.exchange.number e) (Some x)) same

others_kept : (number e : ℕ) (xs : List WatchedExchange) → (number ≡ e → ⊥) → open_in e (others number xs) ≡ open_in e xs
others_kept number e [] ne = refl
others_kept number e (x ∷ xs) ne = other_kept x xs (others number xs) number e (eqb x.exchange.number number) ne refl (others_kept number e xs ne)

pub closed : (number e : ℕ) (xs : List WatchedExchange) → open_in e (others number xs) ≡ cond (eqb number e) None (open_in e xs)
closed number e xs =
    elim (cases_eq number e) [
      | inl same ↦ rw (eq-eqb number e same) (subst (λ (n : ℕ). open_in n (others number xs) ≡ None) same (none_of_it number xs))
      | inr ne ↦ rw (ne_eqb number e ne) (others_kept number e xs ne)
    ]

-- ---- opening

pushed_first : (p : WatchedExchange → Bool) (xs : List WatchedExchange) (x : WatchedExchange) → find p xs ≡ None → p x ≡ true → find p (xs ++ x ∷ []) ≡ Some x
pushed_first p [] x none is = rw is refl
pushed_first p (y ∷ xs) x none is =
    elim (cases_Bool (p y)) [ inl same ↦ absurd (let e = rw same at none in cc) | inr other ↦ rw other (pushed_first p xs x (rw other at none) is) ]

pushed_other : (p : WatchedExchange → Bool) (xs : List WatchedExchange) (x : WatchedExchange) → p x ≡ false → find p (xs ++ x ∷ []) ≡ find p xs
pushed_other p [] x is = rw is refl
pushed_other p (y ∷ xs) x is = ap (cond (p y) (Some y)) (pushed_other p xs x is)

opened_by : (b : Bool) (e : ℕ) (xs : List WatchedExchange) (x : WatchedExchange) (before : Option WatchedExchange) → eqb x.exchange.number e ≡ b
    → open_in e xs ≡ cond b None before → open_in e (xs ++ x ∷ []) ≡ cond b (Some x) before
opened_by true e xs x before is left = pushed_first (λ y. eqb y.exchange.number e) xs x left is
opened_by false e xs x before is left = pushed_other (λ y. eqb y.exchange.number e) xs x is ∙ left

pub opened : (e : ℕ) (xs : List WatchedExchange) (x : WatchedExchange) (before : Option WatchedExchange) → open_in e xs ≡ cond (eqb x.exchange.number e) None before
    → open_in e (xs ++ x ∷ []) ≡ cond (eqb x.exchange.number e) (Some x) before
opened e xs x before left = opened_by (eqb x.exchange.number e) e xs x before refl left

-- ---- windows

abbrev watched_in : ℕ → List Watched → Option Watched
watched_in e xs = find (λ (w : Watched). eqb w.exchange.number e) xs

found_watched : (e : ℕ) (xs : List WatchedExchange) → watched_in e (map watched xs) ≡ option_map watched (open_in e xs)
found_watched e [] = refl
found_watched e (x ∷ xs) = elim (cases_Bool (eqb x.exchange.number e)) [ inl same ↦ rw same refl | inr other ↦ rw other (found_watched e xs) ]

found_answered : (forward : Forward) (cause : ToldCause) (response : Message ResponseHead) (e : ℕ) (ws : List Watched)
    → watched_in e (map (watched_answered forward cause response) ws) ≡ option_map (watched_answered forward cause response) (watched_in e ws)
found_answered forward cause response e [] = refl
found_answered forward cause response e (w ∷ ws) =
    elim (cases_Bool (eqb w.exchange.number e)) [ inl same ↦ rw same refl | inr other ↦ rw other (found_answered forward cause response e ws) ]

-- what the response makes of the exchange of a number
found_in : (forward : Forward) (cause : ToldCause) (response : Message ResponseHead) (e : ℕ) (old new : List WatchedExchange)
    → map watched new ≡ map (watched_answered forward cause response) (map watched old)
    → option_map watched (open_in e new) ≡ option_map (watched_answered forward cause response) (option_map watched (open_in e old))
found_in forward cause response e old new is =
    sym (found_watched e new) ∙ ap (watched_in e) is ∙ found_answered forward cause response e (map watched old)
    ∙ ap (option_map (watched_answered forward cause response)) (found_watched e old)

abbrev exchange_watched : Option Watched → Option Exchange
exchange_watched o = option_map (λ (w : Watched). w.exchange) o

abbrev window_watched : Option Watched → List WindowResponse
window_watched None = []
window_watched (Some w) = w.window

seen_exchange : (o : Option WatchedExchange) → watched_exchange o ≡ exchange_watched (option_map watched o)
seen_exchange None = refl
seen_exchange (Some x) = refl

seen_window : (o : Option WatchedExchange) → window_of o ≡ window_watched (option_map watched o)
seen_window None = refl
seen_window (Some x) = refl

exchange_stays : (forward : Forward) (cause : ToldCause) (response : Message ResponseHead) (o : Option Watched) → exchange_watched (option_map (watched_answered forward cause response) o) ≡ exchange_watched o
exchange_stays forward cause response None = refl
exchange_stays forward cause response (Some w) = refl

window_grows : (format : Format) (forward : Forward) (cause : Option ℕ) (response : Message ResponseHead) (o : Option Watched)
    → window_watched (option_map (watched_answered forward (told_in format cause) response) o)
    ≡ window_watched o ++ added_to_window format (exchange_watched o) (Some forward) cause response
window_grows format forward cause response None = refl
window_grows format forward cause response (Some w) = refl

-- the exchange stays, and its window has what the response adds
pub exchange_answered : (forward : Forward) (cause : ToldCause) (response : Message ResponseHead) (e : ℕ) (old new : List WatchedExchange)
    → map watched new ≡ map (watched_answered forward cause response) (map watched old)
    → watched_exchange (open_in e new) ≡ watched_exchange (open_in e old)
exchange_answered forward cause response e old new is =
    seen_exchange (open_in e new) ∙ ap exchange_watched (found_in forward cause response e old new is)
    ∙ exchange_stays forward cause response (option_map watched (open_in e old)) ∙ sym (seen_exchange (open_in e old))

pub window_answered : (format : Format) (forward : Forward) (cause : Option ℕ) (response : Message ResponseHead) (e : ℕ) (old new : List WatchedExchange)
    → map watched new ≡ map (watched_answered forward (told_in format cause) response) (map watched old)
    → window_of (open_in e new) ≡ window_of (open_in e old) ++ added_to_window format (watched_exchange (open_in e old)) (Some forward) cause response
window_answered format forward cause response e old new is =
    let window = sym (seen_window (open_in e old)) in
    let exchange = sym (seen_exchange (open_in e old)) in
    seen_window (open_in e new) ∙ ap window_watched (found_in forward (told_in format cause) response e old new is)
    ∙ window_grows format forward cause response (option_map watched (open_in e old))
    ∙ (λ i. window i ++ added_to_window format (exchange i) (Some forward) cause response)
