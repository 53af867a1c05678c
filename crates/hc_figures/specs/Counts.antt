-- What replies say of themselves, counted. A count that has come to the greatest number stays there.
use Rattle.std.specs.Prelude.{◌+◌, ◌-◌, ◌^◌, ◌&&◌, ◌==◌, ℕ, Bool, true, false, min, not}
use Rattle.hc_status.specs.declared.marks.Mark.{Mark}
use Rattle.hc_status.specs.declared.marks.Mark.TheVariants.{Hit, Forwarded, Both, Unmarked}
use Rattle.hc_figures.specs.declared.counts.ReplyCounts.{ReplyCounts}

-- nothing
abbrev pub none_counted : ReplyCounts
none_counted = record { hits = 0; forwarded = 0; collapsed = 0; unmarked = 0; both = 0; unjudged = 0; hit_octets = 0; forwarded_octets = 0 }

-- as much more
abbrev pub with_more : ℕ → ℕ → ℕ
with_more much count = min (count + much) (2 ^ 64 - 1)

abbrev pub one_more_if : Bool → ℕ → ℕ
one_more_if true count = with_more 1 count
one_more_if false count = count

-- one reply more, of that mark and with a body of so many octets, and right or wrong
abbrev pub counted : Mark → ℕ → Bool → ReplyCounts → ReplyCounts
counted (Hit ttl) octets is_right counts = record counts { hits = with_more 1 counts.hits; hit_octets = with_more octets counts.hit_octets }
counted (Forwarded collapsed) octets is_right counts =
    record counts { forwarded = with_more 1 counts.forwarded; forwarded_octets = with_more octets counts.forwarded_octets; collapsed = one_more_if collapsed counts.collapsed }
counted Both octets is_right counts = record counts { both = with_more 1 counts.both }
counted Unmarked octets is_right counts = record counts { unmarked = with_more 1 counts.unmarked; unjudged = one_more_if is_right counts.unjudged }

-- how many there are
abbrev pub all_of : ReplyCounts → ℕ
all_of counts = min (counts.hits + counts.forwarded + counts.unmarked + counts.both) (2 ^ 64 - 1)

-- of how many of them something is said
abbrev pub judged_of : ReplyCounts → ℕ
judged_of counts = all_of counts - counts.unjudged

-- there are some, and no mark on any
abbrev pub have_no_mark : ReplyCounts → Bool
have_no_mark counts = not (all_of counts == 0) && (all_of counts == counts.unmarked)
