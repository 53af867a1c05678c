-- What is found of the next item of a transcript.
use Rattle.std.specs.Prelude.{◌≡◌, List, IsSome}
use Rattle.hc_transcript.specs.declared.format.Format.{Format}
use Rattle.hc_transcript.specs.Items.{Item, ClientReply}
use Rattle.hc_transcript.specs.History.{exchange_of}
use Rattle.hc_history.specs.declared.settings.Settings.{Settings}
use Rattle.hc_history.specs.declared.verdicts.Finding.{Finding}
use Rattle.hc_history.specs.declared.verdicts.Finding.TheVariants.{Right}
use Rattle.hc_history.specs.Right.{IsFinding}

-- what is found of the next item: that it is right, where it is no reply
abbrev pub IsFound : Format → Settings → List Item → Item → Finding → Type 0
IsFound format settings h (ClientReply number moment reply) found = IsFinding format settings (exchange_of number h) moment reply h found
IsFound format settings h item found = found ≡ Right

-- the next item, if it is a reply, answers what is open
abbrev pub AnswersOpen : List Item → Item → Type 0
AnswersOpen h (ClientReply number moment reply) = IsSome (exchange_of number h)
AnswersOpen h item = Unit {0}
