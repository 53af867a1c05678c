-- What was written of what waited, and what is owed behind it.
use Rattle.std.proofs.Common.{◌≡◌, ℕ, Bool, false, List, ◌++◌, take, drop, refl, sym, ap, ◌∙◌, subst, append_assoc, take-append-drop}
use Rattle.hc_flow.specs.Passing.{Moves, Owes}

-- a front was written, and then a further one
pub moves_more : (before between after : List ℕ → Type 0) (waited waits waits' : List ℕ) (n : ℕ) → Moves before between waited waits → waits' ≡ drop n waits
    → ((octets : List ℕ) → between octets → after (octets ++ take n waits)) → Moves before after waited waits'
moves_more before between after waited waits waits' n moves is got = record {
  front = moves.front ++ take n waits;
  split =
      moves.split ∙ ap (λ (o : List ℕ). moves.front ++ o) (sym (take-append-drop n waits)) ∙ sym (append_assoc moves.front (take n waits) (drop n waits))
      ∙ ap (λ (o : List ℕ). (moves.front ++ take n waits) ++ o) (sym is);
  got = λ octets had. subst after (append_assoc octets moves.front (take n waits)) (got (octets ++ moves.front) (moves.got octets had));
}

-- what waits now is what is owed still
pub owes_moved : {S : Type 0} (has_got : S → List ℕ → Type 0) (stream stream' : S) (failed : Bool) (waited waits sent : List ℕ) → failed ≡ false → Moves (has_got stream) (has_got stream') waited waits
    → Owes has_got stream failed waited sent → Owes has_got stream' failed waits sent
owes_moved has_got stream stream' failed waited waits sent works moves owes = record {
  got = owes.got ++ moves.front;
  has_it = moves.got owes.got owes.has_it;
  rest = waits;
  sent_is =
      owes.sent_is ∙ ap (λ (o : List ℕ). owes.got ++ o) (owes.waits_is works ∙ moves.split) ∙ sym (append_assoc owes.got moves.front waits);
  waits_is = λ still. refl;
}
