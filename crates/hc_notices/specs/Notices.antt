-- What a proxy says on standard error.
use Rattle.std.specs.Prelude.{◌≡◌, ℕ, ◌==◌, List, [], ◌∷◌, ◌++◌, Option, codes, decimal, if◌then◌else◌}
use Rattle.std.specs.Io.KnownBytes.{Appends}
use Rattle.hc_notices.specs.declared.notice.Notice.{Notice}
use Rattle.hc_notices.specs.declared.notice.Wrongs.{Wrongs}
use Rattle.hc_notices.specs.declared.notice.Notice.TheVariants.{Listening, Watched, Deaf, Refused, Failed, CutOff, Unpolled, Behind, RecordFailed, RecordFull}

-- the word for so many times
abbrev pub times_word : ℕ → List ℕ
times_word count = if count == 1 then codes "time" else codes "times"

-- the line that says what befell requests, responses or clients, why, how often, and where it did last
abbrev pub wrongs_line : List ℕ → Wrongs → List ℕ
wrongs_line befell wrongs = codes "hcache: " ++ (befell ++ (codes ", since " ++ (wrongs.what.now ++ (codes ": "
    ++ (decimal wrongs.count ++ (codes " " ++ (times_word wrongs.count ++ (codes ", the last " ++ (wrongs.last.now ++ 10 ∷ [])))))))))

-- the line that says how often the system couldn't say what is ready
abbrev pub unpolled_line : ℕ → List ℕ
unpolled_line count = codes "hcache: the system couldn't say what is ready: " ++ (decimal count ++ (codes " " ++ (times_word count ++ 10 ∷ [])))

-- the line on standard error, with its line feed
abbrev pub notice_line : Notice → List ℕ
notice_line (Listening greeting) = codes "hcache: listening at " ++ (greeting.addresses.now
    ++ (codes ", before " ++ (greeting.origin.now
    ++ (codes ", with a store of " ++ (decimal greeting.keys
    ++ (codes " keys and " ++ (decimal greeting.bytes ++ (codes " bytes" ++ 10 ∷ []))))))))
notice_line (Watched addresses) = codes "hcache: status at " ++ (addresses.now ++ 10 ∷ [])
notice_line Deaf = codes "hcache: a signal ends it at once, since SIGTERM and SIGINT aren't blocked" ++ 10 ∷ []
notice_line (Refused wrongs) = wrongs_line (codes "requests were refused") wrongs
notice_line (Failed wrongs) = wrongs_line (codes "responses failed") wrongs
notice_line (CutOff wrongs) = wrongs_line (codes "clients were cut off") wrongs
notice_line (Unpolled count) = unpolled_line count
notice_line Behind = codes "hcache: the clock was set back, and ages don't follow it: a restart is due" ++ 10 ∷ []
notice_line (RecordFailed reason) = codes "hcache: the recording has ended, and serving goes on: " ++ (reason.now ++ 10 ∷ [])
notice_line RecordFull = codes "hcache: the recording has ended at its limit, and serving goes on" ++ 10 ∷ []

-- the lines of those notices, one behind the other
abbrev pub lines_of : List Notice → List ℕ
lines_of [] = []
lines_of (notice ∷ notices) = notice_line notice ++ lines_of notices

-- known octets grow by the lines of notices
pub record SaysAll (old new : Option (List ℕ)) : Type 0 where
  pub notices : List Notice
  pub said : Appends old new (lines_of notices)

-- known octets grow by a beginning of the lines of notices
pub record SaysSome (old new : Option (List ℕ)) : Type 0 where
  pub notices : List Notice
  pub said : List ℕ
  pub unsaid : List ℕ
  pub lines_are : said ++ unsaid ≡ lines_of notices
  pub appended : Appends old new said

-- known octets grow by a beginning of those
pub record BeginsBehind (old new : Option (List ℕ)) (octets : List ℕ) : Type 0 where
  pub said : List ℕ
  pub unsaid : List ℕ
  pub octets_are : said ++ unsaid ≡ octets
  pub appended : Appends old new said
