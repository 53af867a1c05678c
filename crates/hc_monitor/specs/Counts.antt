-- Replies by how they came about and by the class of their status: one more is counted at one place alone.
use Rattle.std.specs.Prelude.{ℕ, ◌+◌, ◌-◌, ◌^◌, min}
use Rattle.hc_monitor.specs.declared.figures.Classes.{Classes}
use Rattle.hc_monitor.specs.declared.figures.Ways.{Ways}
use Rattle.hc_monitor.specs.declared.marks.Class.{Class}
use Rattle.hc_monitor.specs.declared.marks.Class.TheVariants.{Successful, Redirection, ClientError, ServerError, Other}
use Rattle.hc_monitor.specs.declared.marks.Way.{Way}
use Rattle.hc_monitor.specs.declared.marks.Way.TheVariants.{Hit, StaleHit, Collapsed, UriMiss, VaryMiss, Stale, Method, Request, Bypass, Unmarked}

-- one more, as far as numbers go
abbrev pub more : ℕ → ℕ
more count = min (count + 1) (2 ^ 64 - 1)

-- one more of that class
abbrev pub counted_in : Class → Classes → Classes
counted_in Successful c = record c { successful = more c.successful }
counted_in Redirection c = record c { redirection = more c.redirection }
counted_in ClientError c = record c { client_error = more c.client_error }
counted_in ServerError c = record c { server_error = more c.server_error }
counted_in Other c = record c { other = more c.other }

-- one more of that way and class
abbrev pub counted_of : Way → Class → Ways → Ways
counted_of Hit class w = record w { hit = counted_in class w.hit }
counted_of StaleHit class w = record w { stale_hit = counted_in class w.stale_hit }
counted_of Collapsed class w = record w { collapsed = counted_in class w.collapsed }
counted_of UriMiss class w = record w { uri_miss = counted_in class w.uri_miss }
counted_of VaryMiss class w = record w { vary_miss = counted_in class w.vary_miss }
counted_of Stale class w = record w { stale = counted_in class w.stale }
counted_of Method class w = record w { method = counted_in class w.method }
counted_of Request class w = record w { request = counted_in class w.request }
counted_of Bypass class w = record w { bypass = counted_in class w.bypass }
counted_of Unmarked class w = record w { unmarked = counted_in class w.unmarked }
