use Rattle.hc_transcript.specs.Reader.{unread}
use Rattle.hc_split.proofs.choosing.FamilyReader.feed.Given as goal

abbrev pub decreases-records : goal.decreases-records
decreases-records l = unread l.self.reader
