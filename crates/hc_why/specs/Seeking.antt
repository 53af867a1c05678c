-- What the first reading tells.
use Rattle.std.specs.Prelude.{◌≡◌, ℕ, Bool, ◌==◌, List, [], ◌∷◌, true, Option, Some, None, IfSome, is_some, length, nat_le, if◌then◌else◌}
use Rattle.hc_transcript.specs.Items.{Item}
use Rattle.hc_history.specs.declared.reasons.Reason.{Reason}
use Rattle.hc_history.specs.declared.verdicts.Finding.{Finding}
use Rattle.hc_history.specs.declared.verdicts.Finding.TheVariants.{Right, Wrong}
use Rattle.hc_history.specs.declared.wrong.WrongReply.{WrongReply}
use Rattle.hc_why.specs.declared.first.FirstWrong.{FirstWrong}
use Rattle.hc_why.specs.declared.seeking.ReplyAt.{ReplyAt}
use Rattle.hc_why.specs.Found.{HasFoundOf, finding_of, position_of}
use Rattle.hc_past.specs.Standing.{stands_at}

-- ---- the first wrong reply

-- the one that it has seen
abbrev pub first_of : FirstWrong → Option WrongReply
first_of seeker = seeker.first

-- it has found something of the one that it has seen, if it has seen one
abbrev pub HasFound : FirstWrong → Type 0
HasFound seeker = HasFoundOf seeker.first seeker.found

-- ---- the reply at a position

-- the position
abbrev pub place_of : ReplyAt → ℕ
place_of seeker = seeker.position

-- why a reply is wrong of which that is found, if it is
abbrev pub reason_in : Finding → Option Reason
reason_in Right = None
reason_in (Wrong why) = Some why

-- why the reply at a position is wrong, if one of these wrong replies stands there
abbrev pub wrong_at : ℕ → List WrongReply → Option Reason
wrong_at place [] = None
wrong_at place (wrong ∷ wrongs) = if wrong.position == place then Some wrong.reason else wrong_at place wrongs

-- a reply of that position and that finding stands at the place, and is wrong by the reason that these wrong replies have there, or right where they have none
abbrev pub IsOfPlace : ℕ → List WrongReply → ℕ → Finding → Type 0
IsOfPlace place wrongs position finding = (position ≡ place) × (reason_in finding ≡ wrong_at place wrongs)

-- what it has found there, of these wrong replies
pub record IsFoundAt (seeker : ReplyAt) (wrongs : List WrongReply) : Type 0 where
  pub reason : seeker.reason ≡ wrong_at seeker.position wrongs
  pub found : IfSome seeker.found (λ reply. IsOfPlace seeker.position wrongs (position_of reply) (finding_of reply))

-- it has found something where a reply stands at the position among these items, and only there; and where it has seen that one is wrong
pub record HasFoundAmong (seeker : ReplyAt) (h : List Item) : Type 0 where
  pub stands : is_some seeker.found ≡ true → stands_at seeker.position h ≡ true
  pub there : stands_at seeker.position h ≡ true → is_some seeker.found ≡ true
  pub finds : is_some seeker.reason ≡ true → is_some seeker.found ≡ true

-- whether it says that the record at the position has passed
abbrev pub has_passed : ReplyAt → Bool
has_passed seeker = seeker.is_behind

abbrev pub HasPassed : ReplyAt → Type 0
HasPassed seeker = has_passed seeker ≡ true

-- it has heard of these items: it has found what it says it has, and it says that the position has passed where they are as many as that, or more
pub record HasHeard (seeker : ReplyAt) (h : List Item) : Type 0 where
  pub found : HasFoundAmong seeker h
  pub passed : has_passed seeker ≡ nat_le seeker.position (length h)
