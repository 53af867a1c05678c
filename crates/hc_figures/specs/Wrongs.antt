-- The wrong replies that are listed.
use Rattle.std.specs.Prelude.{List, map}
use Rattle.hc_history.specs.declared.wrong.WrongReply.{WrongReply}
use Rattle.hc_figures.specs.declared.listed.ListedReply.{ListedReply}

abbrev pub wrongs_of : List ListedReply → List WrongReply
wrongs_of listed = map (λ reply. reply.wrong) listed
