-- Replies are accounted for, one after another.
use Rattle.std.proofs.Common.{◌≡◌, ◌+◌, ◌-◌, ◌^◌, ◌<◌, ◌≤◌, ℕ, min, List, length, take, take_all, get_or, zero, suc, refl, sym, ap, ◌∙◌, arith, subst}
use Rattle.std.proofs.lemmas.List.Sums.{sum_by_more}
use Rattle.hc_service.specs.declared.action.Action.{Action}
use Rattle.hc_access.specs.declared.replies.Replies.{Replies}
use Rattle.hc_access.specs.Accounts.{Accounts, counted_on, replies_in, reply_in}

counted_both : (a b count : ℕ) → counted_on (a + b) count ≡ counted_on b (counted_on a count)
counted_both zero b count = let none : zero + b ≡ b = omega arith in ap (λ (n : ℕ). counted_on n count) none
counted_both (suc a) b count =
    let next : suc a + b ≡ suc (a + b) = omega arith in
    ap (λ (n : ℕ). counted_on n count) next ∙ counted_both a b (min (count + 1) (2 ^ 64 - 1))

pub none_yet : (old new : Replies) → new.fresh ≡ old.fresh → new.lost ≡ old.lost → Accounts 0 old new
none_yet old new fresh lost = record { drafted = 0; lost = 0; all = refl; drafts = rw fresh (omega arith); lost_are = lost }

pub one_lost : (old new : Replies) → new.fresh ≡ old.fresh → new.lost ≡ min (old.lost + 1) (2 ^ 64 - 1) → Accounts 1 old new
one_lost old new fresh lost = record { drafted = 0; lost = 1; all = refl; drafts = rw fresh (omega arith); lost_are = lost }

pub one_drafted : (old new : Replies) → length new.fresh.items ≡ length old.fresh.items + 1 → new.lost ≡ old.lost → Accounts 1 old new
one_drafted old new fresh lost = record { drafted = 1; lost = 0; all = refl; drafts = fresh; lost_are = lost }

pub and_more : (m n : ℕ) (old mid new : Replies) → Accounts m old mid → Accounts n mid new → Accounts (m + n) old new
and_more m n old mid new first then = record {
  drafted = first.drafted + then.drafted;
  lost = first.lost + then.lost;
  all = omega (arith, first.all, then.all);
  drafts = omega (arith, first.drafts, then.drafts);
  lost_are = then.lost_are ∙ ap (counted_on then.lost) first.lost_are ∙ sym (counted_both first.lost then.lost old.lost);
}

pub action_more : (actions : List Action) (place : ℕ) (action : Action) (old mid new : Replies) → action ≡ get_or actions place action → place < length actions
    → Accounts (replies_in (take place actions)) old mid → Accounts (reply_in action) mid new → Accounts (replies_in (take (place + 1) actions)) old new
action_more actions place action old mid new is there first then =
    let split : replies_in (take (place + 1) actions) ≡ replies_in (take place actions) + reply_in action =
    sum_by_more reply_in actions place action there ∙ ap (λ (a : Action). replies_in (take place actions) + reply_in a) (sym is) in
    subst (λ (n : ℕ). Accounts n old new) (sym split) (and_more _ _ old mid new first then)

pub all_accounted : (actions : List Action) (place : ℕ) (old new : Replies) → length actions ≤ place → Accounts (replies_in (take place actions)) old new → Accounts (replies_in actions) old new
all_accounted actions place old new long = subst (λ (seen : List Action). Accounts (replies_in seen) old new) (take_all place actions long)
