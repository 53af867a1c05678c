-- What is known of one reply.
use Rattle.std.specs.Prelude.{◌≡◌, ℕ, true, Option, Some, None, is_some}
use Rattle.hc_history.specs.declared.verdicts.Finding.{Finding}
use Rattle.hc_history.specs.declared.verdicts.Finding.TheVariants.{Right, Wrong}
use Rattle.hc_history.specs.declared.wrong.WrongReply.{WrongReply}
use Rattle.hc_why.specs.declared.explaining.Way.{Way}
use Rattle.hc_why.specs.declared.found.FoundReply.{FoundReply}

-- where it stands
abbrev pub position_of : FoundReply → ℕ
position_of found = found.position

-- that it is right, or why it is wrong
abbrev pub finding_of : FoundReply → Finding
finding_of found = found.finding

-- the way that it went
abbrev pub way_found : FoundReply → Way
way_found found = found.way

-- the wrong reply that a reply of that position is, by what is found of it: none where it is right
abbrev pub wrong_in : ℕ → Finding → Option WrongReply
wrong_in position Right = None
wrong_in position (Wrong why) = Some record { position = position; reason = why }

-- it is wrong, and is this wrong reply
abbrev pub IsThat : Option WrongReply → ℕ → Finding → Type 0
IsThat wrong position finding = (is_some wrong ≡ true) × (wrong ≡ wrong_in position finding)

-- something is found where there is a wrong reply
abbrev pub HasFoundOf : Option WrongReply → Option FoundReply → Type 0
HasFoundOf wrong found = is_some wrong ≡ true → is_some found ≡ true
