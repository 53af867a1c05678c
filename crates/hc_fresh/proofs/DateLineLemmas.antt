-- Fields that were given one Date state it.
use Rattle.std.proofs.Common.{◌≡◌, ℕ, ◌<◌, List, [], ◌∷◌, ◌++◌, Option, Some, None, refl, ap, ◌∙◌}
use Rattle.std.specs.Prelude.{unwrap_or, option_and_then, codes}
use Rattle.hc_fields.specs.declared.fields.Field.{Field}
use Rattle.hc_fields.specs.Values.{values_of, only, without}
use Rattle.hc_fields.proofs.UpdateLemmas.{values_append, values_without}
use Rattle.hc_fresh.specs.Dates.{date_of, imf_fixdate_at}
use Rattle.hc_fresh.specs.DateLines.{date_stated, date_line, dated_by, dated}
use Rattle.hc_fresh.proofs.DateLemmas.{written_read_back}

date_left : (fields : List Field) (moment : ℕ) → values_of (codes "date") (without (codes "date") fields ++ date_line moment ∷ []) ≡ imf_fixdate_at moment ∷ []
date_left fields moment =
    values_append (codes "date") (without (codes "date") fields) (date_line moment ∷ [])
    ∙ ap (λ (vs : List (List ℕ)). vs ++ values_of (codes "date") (date_line moment ∷ [])) (values_without (codes "date") fields)

dated_by_states : (stated : Option ℕ) (fields : List Field) (moment : ℕ) → date_stated fields ≡ stated → moment < 253402300800
    → date_stated (dated_by stated moment fields) ≡ Some (unwrap_or stated moment)
dated_by_states (Some date) fields moment is small = is
dated_by_states None fields moment is small =
    ap (λ (vs : List (List ℕ)). option_and_then date_of (only vs)) (date_left fields moment) ∙ written_read_back moment small

pub dated_states : (fields : List Field) (moment : ℕ) → moment < 253402300800 → date_stated (dated moment fields) ≡ Some (unwrap_or (date_stated fields) moment)
dated_states fields moment small = dated_by_states (date_stated fields) fields moment refl small
