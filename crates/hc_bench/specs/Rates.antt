-- How fast messages were read, records audited, or calls answered.
use Rattle.std.specs.Prelude.{ℕ, ◌*◌, ◌/◌, ◌^◌, max}
use Rattle.hc_bench.specs.declared.rate.Rate.{Rate}

-- how many of them a second that is; a time of nothing counts as a nanosecond
abbrev pub count_per_second : Rate → ℕ
count_per_second rate = rate.count * 10 ^ 9 / max rate.nanoseconds 1

-- how many octets a second that is
abbrev pub octets_per_second : Rate → ℕ
octets_per_second rate = rate.octets * 10 ^ 9 / max rate.nanoseconds 1

-- how many femtoseconds an octet took
abbrev pub cost : Rate → ℕ
cost rate = rate.nanoseconds * 10 ^ 6 / max rate.octets 1

-- what an octet took, in percent of what an octet of the other took
abbrev pub percent_of : Rate → Rate → ℕ
percent_of rate other = cost rate * 100 / max (cost other) 1
