-- The lines that the program prints.
use Rattle.std.specs.Prelude.{ℕ, List, [], ◌∷◌, ◌++◌, length, codes, decimal}
use Rattle.hc_bench.specs.declared.feeding.FedMessage.{FedMessage}
use Rattle.hc_bench.specs.declared.rate.Rate.{Rate}
use Rattle.hc_bench.specs.Rates.{count_per_second, octets_per_second, percent_of}

-- what was read, and in pieces of how many octets
abbrev pub start : List ℕ → ℕ → List ℕ → List ℕ
start name size rest = name ++ (codes " piece=" ++ (decimal size ++ rest))

-- what was counted
abbrev pub counts_line : {H : Type 0} → List ℕ → ℕ → FedMessage H → List ℕ
counts_line name size fed = start name size
    (codes " octets=" ++ (decimal fed.octets ++ (codes " body=" ++ (decimal (length fed.message.body)
    ++ (codes " calls=" ++ (decimal fed.calls ++ 10 ∷ []))))))

-- how fast they were read
abbrev pub rate_line : List ℕ → ℕ → Rate → List ℕ
rate_line name size rate = start name size
    (codes " messages=" ++ (decimal rate.count ++ (codes " octets=" ++ (decimal rate.octets
    ++ (codes " octets_per_second=" ++ (decimal (octets_per_second rate) ++ 10 ∷ []))))))

-- what an octet of the long ones cost, in percent of what an octet of the short ones cost
abbrev pub cost_line : List ℕ → ℕ → Rate → Rate → List ℕ
cost_line name size short long =
    start name size (codes " cost_percent=" ++ (decimal (percent_of long short) ++ 10 ∷ []))

-- how fast as many calls of both kinds were, of a store of so many keys of which so many were used in turn
abbrev pub store_line : ℕ → ℕ → Rate → Rate → List ℕ
store_line keys used choose put =
    codes "store keys=" ++ (decimal keys ++ (codes " used=" ++ (decimal used ++ (codes " calls=" ++ (decimal choose.count
    ++ (codes " choose_per_second=" ++ (decimal (count_per_second choose)
    ++ (codes " put_per_second=" ++ (decimal (count_per_second put) ++ 10 ∷ [])))))))))
