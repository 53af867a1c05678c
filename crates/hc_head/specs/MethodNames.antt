-- What lies under a `Method`.
use Rattle.std.specs.Prelude.{ℕ, List, codes}
use Rattle.hc_head.specs.declared.methods.Name.{Name}
use Rattle.hc_head.specs.declared.methods.Name.TheVariants.{Get, Head, Other}

-- the octets of a method
abbrev pub name_octets : Name → List ℕ
name_octets Get = codes "GET"
name_octets Head = codes "HEAD"
name_octets (Other octets) = octets.items
