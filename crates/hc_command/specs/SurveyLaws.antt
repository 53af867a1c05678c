-- How a survey is fed piece after piece.
use Rattle.std.proofs.Common.{ℕ, List, [], ◌++◌, Option, None, append-nil, append_assoc, subst, sym}
use Rattle.hc_transcript.specs.Items.{Item}
use Rattle.hc_history.specs.declared.settings.Settings.{Settings}
use Rattle.hc_history.specs.declared.wrong.WrongReply.{WrongReply}
use Rattle.hc_history.specs.Seen.{Seen}
use Rattle.hc_audit.specs.Surveying.{Surveys}
use Rattle.hc_audit.specs.Told.{IsToldOf}
use Rattle.hc_command.specs.declared.surveying.Stop.{Stop}
use Rattle.hc_command.specs.declared.surveying.Surveying.{Surveying}
use Rattle.hc_command.specs.Report.{FeedsSurvey}

module _ {I T : Type 0} (seen : I → Seen) (tells : T → List WrongReply → Type 0) (hears : T → List Item → Type 0) (enough : T → Type 0) where
  -- by these octets the survey came from the first to the last, as did its witness, and stops by that, if it does
  abbrev Goes : Surveying I → T → Surveying I → T → List ℕ → Option Stop → Type 0
  Goes first before last after octets stop =
      (settings : Settings) (read : List ℕ) → IsToldOf (Surveys seen first.survey settings read) (tells before) (hears before)
      → FeedsSurvey seen last.survey (tells after) (hears after) (enough after) settings (read ++ octets) stop

  -- by no octets it stays as it is
  pub survey_stays : (surveying : Surveying I) (told : T) → Goes surveying told surveying told [] None
  survey_stays surveying told = λ settings read so_far. record {
    history = so_far.0;
    wrongs = so_far.1;
    surveys = subst (λ (octets : List ℕ). Surveys seen surveying.survey settings octets so_far.0 so_far.1) (sym (append-nil read)) so_far.2;
    told = so_far.3;
    heard = so_far.4;
    stops = tt;
  }

  -- and by some, and then more, it comes to where all of them lead
  pub survey_goes_on : (first middle last : Surveying I) (before between after : T) (some more : List ℕ) (stop : Option Stop)
      → Goes first before middle between some None → Goes middle between last after more stop → Goes first before last after (some ++ more) stop
  survey_goes_on first middle last before between after some more stop so_far on = λ settings read told.
      let fed = so_far settings read told in
      let then_fed = on settings (read ++ some) (fed.history, fed.wrongs, fed.surveys, fed.told, fed.heard) in
      subst (λ (octets : List ℕ). FeedsSurvey seen last.survey (tells after) (hears after) (enough after) settings octets stop) (append_assoc read some more) then_fed
