-- Laws of what a voice says, line by line.
use Rattle.std.proofs.Common.{◌≡◌, ℕ, Bool, List, [], ◌∷◌, ◌++◌, Option, None, Some, true, false, not, refl, sym, ap, ◌∙◌, append_assoc, append-nil}
use Rattle.std.proofs.KnownBytes.{Appends-trans, Keeps-refl, Keeps-trans}
use Rattle.std.specs.Io.KnownBytes.{Appends, Keeps}
use Rattle.hc_notices.specs.declared.voice.Voice.{Voice}
use Rattle.hc_notices.specs.declared.notice.Notice.{Notice}
use Rattle.hc_notices.specs.Voices.{GoesOn}
use Rattle.hc_notices.specs.Notices.{BeginsBehind, SaysAll, SaysSome, lines_of, notice_line}

true_is_false : true ≡ false → ⊥
true_is_false e = cc

absurd_of : {T : Type 0} → true ≡ false → T
absurd_of e = absurd (true_is_false e)

pub kept_behind : (old mid new : Option (List ℕ)) (octets : List ℕ) → Appends old mid octets → Keeps mid new → Appends old new octets
kept_behind None mid new octets p q = tt
kept_behind (Some x) None new octets p q = absurd p
kept_behind (Some x) (Some y) None octets p q = absurd q
kept_behind (Some x) (Some y) (Some z) octets p q = q ∙ p

-- kept octets grew by nothing
pub grown_by_none : (old new : Option (List ℕ)) → Keeps old new → Appends old new []
grown_by_none None new q = tt
grown_by_none (Some x) None q = absurd q
grown_by_none (Some x) (Some y) q = q ∙ sym (append-nil x)

pub kept_after : (old mid new : Option (List ℕ)) (octets : List ℕ) → Keeps old mid → Appends mid new octets → Appends old new octets
kept_after None mid new octets p q = tt
kept_after (Some x) None new octets p q = absurd p
kept_after (Some x) (Some y) None octets p q = absurd q
kept_after (Some x) (Some y) (Some z) octets p q = q ∙ ap (λ l. l ++ octets) p

pub lines_of_both : (notices more : List Notice) → lines_of (notices ++ more) ≡ lines_of notices ++ lines_of more
lines_of_both [] more = refl
lines_of_both (notice ∷ notices) more = ap (λ l. notice_line notice ++ l) (lines_of_both notices more) ∙ sym (append_assoc (notice_line notice) (lines_of notices) (lines_of more))

pub says_nothing : (old new : Option (List ℕ)) → Keeps old new → SaysAll old new
says_nothing old new kept = record { notices = []; said = grown_by_none old new kept }

pub all_is_some : (old new : Option (List ℕ)) → SaysAll old new → SaysSome old new
all_is_some old new all = record { notices = all.notices; said = lines_of all.notices; unsaid = []; lines_are = append-nil (lines_of all.notices); appended = all.said }

pub nothing_is_said : (old : Option (List ℕ)) → SaysSome old old
nothing_is_said old = all_is_some old old (says_nothing old old (Keeps-refl old))

pub says_both : (old mid new : Option (List ℕ)) → SaysAll old mid → SaysAll mid new → SaysAll old new
says_both old mid new first then = record {
  notices = first.notices ++ then.notices;
  said = rw (lines_of_both first.notices then.notices) (Appends-trans old mid new _ _ first.said then.said);
}

pub says_some_more : (old mid new : Option (List ℕ)) → SaysAll old mid → SaysSome mid new → SaysSome old new
says_some_more old mid new first then = record {
  notices = first.notices ++ then.notices;
  said = lines_of first.notices ++ then.said;
  unsaid = then.unsaid;
  lines_are = append_assoc (lines_of first.notices) then.said then.unsaid ∙ ap (λ l. lines_of first.notices ++ l) then.lines_are ∙ sym (lines_of_both first.notices then.notices);
  appended = Appends-trans old mid new _ _ first.said then.appended;
}

pub some_kept : (old mid new : Option (List ℕ)) → SaysSome old mid → Keeps mid new → SaysSome old new
some_kept old mid new some kept = record {
  notices = some.notices;
  said = some.said;
  unsaid = some.unsaid;
  lines_are = some.lines_are;
  appended = kept_behind old mid new some.said some.appended kept;
}

module _ {E : Type 0} (contents : E → Option (List ℕ)) where
  -- nothing was said
  pub stays : (old new : Voice E) → new.to.ghost_name ≡ old.to.ghost_name → new.silent ≡ old.silent → Keeps (contents old.to.now) (contents new.to.now) → GoesOn contents old new
  stays old new same silent kept = record {
    same_reference = same;
    still = λ was. (silent ∙ was, kept);
    whole = λ _ _. says_nothing _ _ kept;
    some = λ _. all_is_some _ _ (says_nothing _ _ kept);
  }

  pub stays_as_it_is : (voice : Voice E) → GoesOn contents voice voice
  stays_as_it_is voice = stays voice voice refl refl (Keeps-refl (contents voice.to.now))

  -- one went on, and then went on
  joined_whole : (first then last : Voice E) → GoesOn contents first then → GoesOn contents then last → first.silent ≡ false → last.silent ≡ false → (b : Bool) → then.silent ≡ b
      → SaysAll (contents first.to.now) (contents last.to.now)
  joined_whole first then last one other speaks still_speaks true was = absurd_of (sym (other.still was).0 ∙ still_speaks)
  joined_whole first then last one other speaks still_speaks false was = says_both _ _ _ (one.whole speaks was) (other.whole was still_speaks)

  joined_some : (first then last : Voice E) → GoesOn contents first then → GoesOn contents then last → first.silent ≡ false → (b : Bool) → then.silent ≡ b
      → SaysSome (contents first.to.now) (contents last.to.now)
  joined_some first then last one other speaks true was = some_kept _ _ _ (one.some speaks) (other.still was).1
  joined_some first then last one other speaks false was = says_some_more _ _ _ (one.whole speaks was) (other.some was)

  pub joined : (first then last : Voice E) → GoesOn contents first then → GoesOn contents then last → GoesOn contents first last
  joined first then last one other = record {
    same_reference = other.same_reference ∙ one.same_reference;
    still = λ was. ((other.still (one.still was).0).0, Keeps-trans _ _ _ (one.still was).1 (other.still (one.still was).0).1);
    whole = λ speaks still_speaks. joined_whole first then last one other speaks still_speaks then.silent refl;
    some = λ speaks. joined_some first then last one other speaks then.silent refl;
  }

  -- a line was written whole, or a beginning of it
  said_line : (old new : Voice E) (notice : Notice) → old.silent ≡ false → (b : Bool) → new.silent ≡ not b → BeginsBehind (contents old.to.now) (contents new.to.now) (notice_line notice)
      → (b ≡ true → Appends (contents old.to.now) (contents new.to.now) (notice_line notice)) → SaysSome (contents old.to.now) (contents new.to.now)
  said_line old new notice speaks b is begins all = record {
    notices = notice ∷ [];
    said = begins.said;
    unsaid = begins.unsaid;
    lines_are = begins.octets_are ∙ sym (append-nil (notice_line notice));
    appended = begins.appended;
  }

  all_of_line : (old new : Voice E) (notice : Notice) → (b : Bool) → new.silent ≡ not b → new.silent ≡ false
      → (b ≡ true → Appends (contents old.to.now) (contents new.to.now) (notice_line notice)) → SaysAll (contents old.to.now) (contents new.to.now)
  all_of_line old new notice true is speaks all = record {
    notices = notice ∷ [];
    said = rw (append-nil (notice_line notice)) (all refl);
  }
  all_of_line old new notice false is speaks all = absurd_of (sym is ∙ speaks)

  pub said : (old new : Voice E) (notice : Notice) → new.to.ghost_name ≡ old.to.ghost_name → old.silent ≡ false → (b : Bool) → new.silent ≡ not b
      → BeginsBehind (contents old.to.now) (contents new.to.now) (notice_line notice)
      → (b ≡ true → Appends (contents old.to.now) (contents new.to.now) (notice_line notice)) → GoesOn contents old new
  said old new notice same speaks b is begins all = record {
    same_reference = same;
    still = λ was. absurd_of (sym was ∙ speaks);
    whole = λ _ still_speaks. all_of_line old new notice b is still_speaks all;
    some = λ _. said_line old new notice speaks b is begins all;
  }
