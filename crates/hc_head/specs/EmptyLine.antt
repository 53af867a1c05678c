-- The search for the empty line that ends a head, behind the empty lines that may stand at its front (RFC 9112 sections 2.1 and 2.2).
use Rattle.std.specs.Prelude.{ℕ, ◌||◌, List, ◌==◌, if◌then◌else◌, fold}
use Rattle.httparse.specs.Ascii.{line_feed, carriage_return}
use Rattle.hc_head.specs.declared.empty_line.Search.{Search}
use Rattle.hc_head.specs.declared.empty_line.Search.TheVariants.{Blank, Line, Start, Return, Found}

-- where a search stands behind one octet more
abbrev pub search_after : Search → ℕ → Search
search_after Blank b = if b == carriage_return || b == line_feed then Blank else Line
search_after Line b = if b == line_feed then Start else Line
search_after Start b = if b == line_feed then Found else (if b == carriage_return then Return else Line)
search_after Return b = if b == line_feed then Found else Line
search_after Found b = Found

-- where a search stands behind the octets
abbrev pub searched : Search → List ℕ → Search
searched from octets = fold search_after from octets
