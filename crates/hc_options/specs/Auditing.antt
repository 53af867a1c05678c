-- What the words of `audit` ask.
use Rattle.std.specs.Prelude.{◌≡◌, ◌⊎◌, List, Option, Some, codes}
use Rattle.clap.specs.Words.{HasKind, Row, Text, fault_of, kind_of, subcommand_of}
use Rattle.clap.specs.declared.error.Error.{Error}
use Rattle.clap.specs.declared.error.ErrorKind.TheVariants.{OutOfMemory}
use Rattle.hc_options.specs.declared.auditing.AuditTerms.{AuditTerms}
use Rattle.hc_options.specs.declared.auditing.Minimums.{Minimums}
use Rattle.hc_options.specs.declared.refusal.Refusal.{Refusal}
use Rattle.hc_options.specs.Commands.{auditing, value_in}
use Rattle.hc_options.specs.Refusals.{Refuses, refused_kind}
use Rattle.hc_options.specs.Rows.{audit_entries, is_taken}
use Rattle.hc_options.specs.Settings.{AsksSettings, plain}
use Rattle.hc_options.specs.Values.{count_or_zero}

-- the values, by their names, ask to judge so many replies
pub record AsksMinimums (value : Text → Option Text) (minimums : Minimums) : Type 0 where
  pub hits_are : count_or_zero (value (codes "min-hits")) ≡ Some minimums.hits
  pub judged_are : count_or_zero (value (codes "min-judged")) ≡ Some minimums.judged

-- and to judge them by those settings
pub record AsksAuditTerms (value : Text → Option Text) (terms : AuditTerms) : Type 0 where
  pub settings_are : AsksSettings value terms.settings
  pub minimums_are : AsksMinimums value terms.minimums

-- and to audit that file on those terms
pub record AsksAudit (value : Text → Option Text) (file : Text) (terms : AuditTerms) : Type 0 where
  pub file_is : value (codes "FILE") ≡ Some file
  pub terms_are : AsksAuditTerms value terms

-- any number of replies suffices
abbrev pub no_minimums : Minimums
no_minimums = record { hits = 0; judged = 0 }

-- an audit without options
abbrev pub plain_audit : AuditTerms
plain_audit = record { settings = plain; minimums = no_minimums }

-- ---- the words of the program that only audits

-- the words, of which the first is the program's name, ask to audit that file on those terms
abbrev pub AsksToAudit : List Text → Text → AuditTerms → Type 0
AsksToAudit words = AsksAudit (value_in (subcommand_of auditing words))

-- the values after the subcommand ask nothing, and the error is of the kind for that
pub record IsRefusedAudit (given : Option (Text × List Row)) (e : Error) : Type 0 where
  pub refusal : Refusal
  pub refuses : Refuses is_taken audit_entries (value_in given) refusal
  pub kind_is : refused_kind refusal ≡ Some (kind_of e)

-- memory ran out, or the words are refused for a reason that the command has, or by what they ask
abbrev pub AreRefused : List Text → Error → Type 0
AreRefused words e = HasKind (fault_of auditing words) e ⊎ IsRefusedAudit (subcommand_of auditing words) e

-- ---- what private functions return

-- memory ran out, or the values after the subcommand ask nothing
abbrev pub AreRefusedIn : Option (Text × List Row) → Error → Type 0
AreRefusedIn given e = (kind_of e ≡ OutOfMemory) ⊎ IsRefusedAudit given e
