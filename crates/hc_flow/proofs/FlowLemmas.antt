-- What a flow gave, where it was closed, or octets that were read are lost.
use Rattle.std.proofs.Common.{◌≡◌, ℕ, Bool, true, false, ◌||◌, List, [], ◌++◌, inl, inr, refl, sym, ap, ◌∙◌, subst, append_assoc, append-nil}
use Rattle.std.proofs.lemmas.Bool.{cases_Bool}
use Rattle.hc_flow.specs.Flows.{FailsWithStream}
use Rattle.hc_flow.specs.Passing.{Gave}
use Rattle.hc_flow.specs.declared.flow.Flow.{Flow}
use Rattle.hc_flow.specs.Hearings.{FailsOnly}

module _ {S : Type 0} (has_given : S → List ℕ → Type 0) where
  -- the end of what was read isn't heard
  pub gave_less : (stream : S) (failed : Bool) (heard more : List ℕ) → failed ≡ true → Gave has_given stream failed (heard ++ more) → Gave has_given stream failed heard
  gave_less stream failed heard more lost gave = record {
    given = gave.given;
    has = gave.has;
    rest = more ++ gave.rest;
    given_is = gave.given_is ∙ append_assoc heard more gave.rest;
    all = λ works. absurd (cc);
  }

  -- it was closed
  pub gave_closed : (stream : S) (one other : Bool) (heard : List ℕ) → Gave has_given stream one heard → Gave has_given stream (true || other) heard
  gave_closed stream one other heard gave = record {
    given = gave.given;
    has = gave.has;
    rest = gave.rest;
    given_is = gave.given_is;
    all = λ works. absurd (cc);
  }

  -- what it gave is all that was read
  gave_all : (stream : S) (failed : Bool) (given : List ℕ) → has_given stream given → Gave has_given stream failed given
  gave_all stream failed given had = record {
    given = given;
    has = had;
    rest = [];
    given_is = sym (append-nil given);
    all = λ works. refl;
  }

  module _ (stream stream' : S) (failed failed' : Bool) where
    -- once it is closed more may be read, and is dropped
    pub gave_more : (more : List ℕ) → ((given : List ℕ) → Gave has_given stream failed given → Gave has_given stream' failed' (given ++ more))
        → (heard : List ℕ) → Gave has_given stream true heard → Gave has_given stream' true heard
    gave_more more gives heard gave =
        let after = gives gave.given (gave_all stream failed gave.given gave.has) in record {
          given = after.given;
          has = after.has;
          rest = gave.rest ++ (more ++ after.rest);
          given_is =
              after.given_is ∙ append_assoc gave.given more after.rest ∙ ap (λ (o : List ℕ). o ++ (more ++ after.rest)) gave.given_is
              ∙ append_assoc heard gave.rest (more ++ after.rest);
          all = λ works. absurd (cc);
        }

    -- it stays, whether or not it was closed
    pub gave_still : ((heard : List ℕ) → Gave has_given stream failed heard → Gave has_given stream' failed' heard)
        → (closed : Bool) (heard : List ℕ) → Gave has_given stream (closed || failed) heard → Gave has_given stream' (closed || failed') heard
    gave_still gives false heard gave = gives heard gave
    gave_still gives true heard gave =
        gave_more [] (λ given had. subst (Gave has_given stream' failed') (sym (append-nil given)) (gives given had)) heard gave

-- where it fails with its stream alone, it fails for no other reason
pub fails_with : {S : Type 0} (has_failed : S → Type 0) (ground : Type 0) (before after : Flow S) → FailsWithStream has_failed before after → FailsOnly has_failed ground before after
fails_with has_failed ground before after with_stream failed =
    elim (cases_Bool before.failed) [ inl was ↦ inl (inl was) | inr worked ↦ inl (inr (with_stream.1 worked failed)) ]
