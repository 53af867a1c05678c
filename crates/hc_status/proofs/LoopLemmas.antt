-- The loops that read parameters and members: what is left of the text completes what was read.
use Rattle.std.proofs.Common.{◌≡◌, ℕ, zero, suc, ◌<◌, ◌≤◌, false, ◌==◌, List, [], ◌∷◌, ◌++◌, length, Option, Some, None, Result, Ok, Err, refl, ap, ◌∙◌, arith, length-append}
use Rattle.std.specs.List.{take_while}
use Rattle.std.proofs.lemmas.Bool.{cond-false}
use Rattle.hc_status.specs.declared.fault.SfFault.{SfFault}
use Rattle.hc_status.specs.declared.fault.SfFault.TheVariants.{Syntax, InnerList, Memory}
use Rattle.hc_status.specs.declared.items.Parameter.{Parameter}
use Rattle.hc_status.specs.declared.items.Member.{Member}
use Rattle.hc_status.specs.Answers.{Lacks, begins_parameter}
use Rattle.hc_status.specs.Classes.{is_blank}
use Rattle.hc_status.specs.Faults.{Fails}
use Rattle.hc_status.specs.Grammar.{with_parameter}
use Rattle.hc_status.specs.Reading.{◌>>=◌, behind, result_and_then, member_at, after_member, members_from, members_at, parameter_at, parameters_from, parameters_at}
use Rattle.hc_status.proofs.RunLemmas.{run_spelled}
use Rattle.hc_status.proofs.WrittenLemmas.{parameter_sound}
use Rattle.hc_status.proofs.MemberLemmas.{member_sound}
use Rattle.hc_status.proofs.ListLemmas.{member_at_ok}

-- ---- parameters

-- the parameters of the text are those that were read, and those of the rest
pub record ReadsParameters (text : List ℕ) (params : List Parameter) (rest : List ℕ) : Type 0 where
  pub n : ℕ
  pub room : length rest ≤ n
  pub same : parameters_at text ≡ parameters_from n params rest

pub parameters_start : (text : List ℕ) → ReadsParameters text [] text
parameters_start text = record { n = length text; room = omega arith; same = refl }

shorter_parameter : (text : List ℕ) (p : Parameter) (more : List ℕ) → parameter_at text ≡ Some (p, more) → length more ≤ length text
shorter_parameter text p more found =
    let spells = parameter_sound text (p, more) found in
    omega (arith, ap length spells.spelled, length-append spells.one more, ap length spells.is_parameter.spelled)

pub parameter_shortens : (text rest : List ℕ) (p : Parameter) (more : List ℕ) → rest ≡ 59 ∷ text → parameter_at text ≡ Some (p, more) → length more < length rest
parameter_shortens text rest p more cut found = omega (arith, ap length cut, shorter_parameter text p more found)

one_parameter : (n : ℕ) (params : List Parameter) (text : List ℕ)
    → parameters_from (suc n) params (59 ∷ text) ≡ (parameter_at text >>= λ p. parameters_from n (with_parameter params p.0) p.1)
unfolding parameters_from
one_parameter n params text = refl

pub parameters_step : (text rest behind-it : List ℕ) (params : List Parameter) (p : Parameter) (more : List ℕ) → ReadsParameters text params rest → rest ≡ 59 ∷ behind-it
    → parameter_at behind-it ≡ Some (p, more) → ReadsParameters text (with_parameter params p) more
parameters_step text rest behind-it params p more reads cut found = step reads.n reads.room reads.same
  where
    step : (n : ℕ) → length rest ≤ n → parameters_at text ≡ parameters_from n params rest → ReadsParameters text (with_parameter params p) more
    step zero room same = absurd (omega (arith, room, ap length cut))
    step (suc n) room same = record {
      n = n;
      room = omega (arith, room, ap length cut, shorter_parameter behind-it p more found);
      same =
          same
          ∙ (ap (parameters_from (suc n) params) cut
          ∙ (one_parameter n params behind-it ∙ ap (λ (o : Option (Parameter × List ℕ)). o >>= λ q. parameters_from n (with_parameter params q.0) q.1) found));
    }

pub parameters_fail : (text rest behind-it : List ℕ) (params : List Parameter) → ReadsParameters text params rest → rest ≡ 59 ∷ behind-it
    → parameter_at behind-it ≡ None → parameters_at text ≡ None
parameters_fail text rest behind-it params reads cut found = step reads.n reads.room reads.same
  where
    step : (n : ℕ) → length rest ≤ n → parameters_at text ≡ parameters_from n params rest → parameters_at text ≡ None
    step zero room same = absurd (omega (arith, room, ap length cut))
    step (suc n) room same =
        same
        ∙ (ap (parameters_from (suc n) params) cut
        ∙ (one_parameter n params behind-it ∙ ap (λ (o : Option (Parameter × List ℕ)). o >>= λ q. parameters_from n (with_parameter params q.0) q.1) found))

pub parameters_lack : (fault : SfFault) (text rest behind-it : List ℕ) (params : List Parameter) → ReadsParameters text params rest → rest ≡ 59 ∷ behind-it
    → Lacks fault (parameter_at behind-it) → Lacks fault (parameters_at text)
parameters_lack Syntax text rest behind-it params reads cut lacks = parameters_fail text rest behind-it params reads cut lacks
parameters_lack InnerList text rest behind-it params reads cut lacks = lacks
parameters_lack Memory text rest behind-it params reads cut lacks = tt

parameters_done : (n : ℕ) (params : List Parameter) (rest : List ℕ) → begins_parameter rest ≡ false → parameters_from n params rest ≡ Some (params, rest)
unfolding parameters_from
parameters_done zero params rest none = refl
parameters_done (suc n) params [] none = refl
parameters_done (suc n) params (b ∷ rest) none = cond-false (b == 59) _ _ none

pub parameters_end : (text rest : List ℕ) (params : List Parameter) → ReadsParameters text params rest → begins_parameter rest ≡ false
    → parameters_at text ≡ Some (params, rest)
parameters_end text rest params reads none = reads.same ∙ parameters_done reads.n params rest none

-- ---- members

-- the members of the text are those that were read, and those of the rest
pub record ReadsMembers (text : List ℕ) (members : List Member) (rest : List ℕ) : Type 0 where
  pub n : ℕ
  pub room : length rest ≤ n
  pub same : members_at text ≡ members_from n members rest

pub members_start : (text : List ℕ) → ReadsMembers text [] text
members_start text = record { n = length text; room = omega arith; same = refl }

-- what the reader answers behind a member
abbrev pub members_next : ℕ → List Member → Member → List ℕ → Result (List Member) SfFault
members_next n members m rest = after_member (members ++ m ∷ []) (members_from n (members ++ m ∷ [])) (behind is_blank rest)

one_member : (n : ℕ) (members : List Member) (text : List ℕ)
    → members_from (suc n) members text ≡ result_and_then (λ m. members_next n members m.0 m.1) (member_at text)
unfolding members_from
one_member n members text = refl

no_members : (members : List Member) (text : List ℕ) → members_from zero members text ≡ Err Syntax
unfolding members_from
no_members members text = refl

nothing_short : (text : List ℕ) → length text ≤ 0 → member_at text ≡ Err Syntax
nothing_short [] short = refl
nothing_short (b ∷ text) short = absurd (omega arith)

-- the first member fails
pub members_fail : (text rest : List ℕ) (members : List Member) (fault : SfFault) → ReadsMembers text members rest → member_at rest ≡ Err fault → members_at text ≡ Err fault
members_fail text rest members fault reads failed = step reads.n reads.room reads.same
  where
    step : (n : ℕ) → length rest ≤ n → members_at text ≡ members_from n members rest → members_at text ≡ Err fault
    step zero room same =
        let nothing = nothing_short rest room in
        let none = no_members members rest in
        cc
    step (suc n) room same = same ∙ (one_member n members rest ∙ ap (result_and_then (λ m. members_next n members m.0 m.1)) failed)

pub members_fault : (fault : SfFault) (text rest : List ℕ) (members : List Member) → ReadsMembers text members rest → Fails fault (member_at rest) → Fails fault (members_at text)
members_fault Syntax text rest members reads fails = members_fail text rest members Syntax reads fails
members_fault InnerList text rest members reads fails = members_fail text rest members InnerList reads fails
members_fault Memory text rest members reads fails = tt

not_both : (text : List ℕ) (read : Member × List ℕ) → length text ≤ 0 → member_at text ≡ Ok read → ⊥
not_both text read short found = let none = nothing_short text short in cc

-- the reader stands behind a member
pub record StandsBehind (text : List ℕ) (members : List Member) (m : Member) (rest more : List ℕ) : Type 0 where
  pub n : ℕ
  pub room : length rest ≤ suc n
  pub shorter : length more ≤ length rest
  pub same : members_at text ≡ members_next n members m more

pub members_behind : (text rest : List ℕ) (members : List Member) (m : Member) (more : List ℕ) → ReadsMembers text members rest → member_at rest ≡ Ok (m, more)
    → StandsBehind text members m rest more
members_behind text rest members m more reads found = step reads.n reads.room reads.same
  where
    step : (n : ℕ) → length rest ≤ n → members_at text ≡ members_from n members rest → StandsBehind text members m rest more
    step zero room same = absurd (not_both rest (m, more) room found)
    step (suc n) room same =
        let spells = member_sound rest (m, more) (member_at_ok rest (m, more) found) in
        record {
          n = n;
          room = room;
          shorter = omega (arith, ap length spells.spelled, length-append spells.one more);
          same = same ∙ (one_member n members rest ∙ ap (result_and_then (λ r. members_next n members r.0 r.1)) found);
        }

pub members_end : (text rest : List ℕ) (members : List Member) (m : Member) (more : List ℕ) → StandsBehind text members m rest more → behind is_blank more ≡ []
    → members_at text ≡ Ok (members ++ m ∷ [])
members_end text rest members m more stands none =
    stands.same ∙ ap (after_member (members ++ m ∷ []) (members_from stands.n (members ++ m ∷ []))) none

pub members_broken : (text rest : List ℕ) (members : List Member) (m : Member) (more : List ℕ) (b : ℕ) (tail : List ℕ) → StandsBehind text members m rest more
    → behind is_blank more ≡ b ∷ tail → (b == 44) ≡ false → members_at text ≡ Err Syntax
members_broken text rest members m more b tail stands cut other =
    stands.same ∙ (ap (after_member (members ++ m ∷ []) (members_from stands.n (members ++ m ∷ []))) cut ∙ cond-false (b == 44) _ _ other)

pub comma_shortens : (text rest : List ℕ) (members : List Member) (m : Member) (more tail : List ℕ) → StandsBehind text members m rest more
    → behind is_blank more ≡ 44 ∷ tail → length (behind is_blank tail) < length rest
comma_shortens text rest members m more tail stands cut =
    omega (
      arith,
      stands.shorter,
      ap length cut,
      ap length (run_spelled is_blank more),
      length-append (take_while is_blank more) (behind is_blank more),
      ap length (run_spelled is_blank tail),
      length-append (take_while is_blank tail) (behind is_blank tail),
    )

pub members_step : (text rest : List ℕ) (members : List Member) (m : Member) (more tail : List ℕ) → StandsBehind text members m rest more
    → behind is_blank more ≡ 44 ∷ tail → ReadsMembers text (members ++ m ∷ []) (behind is_blank tail)
members_step text rest members m more tail stands cut = record {
  n = stands.n;
  room = omega (arith, stands.room, comma_shortens text rest members m more tail stands cut);
  same = stands.same ∙ ap (after_member (members ++ m ∷ []) (members_from stands.n (members ++ m ∷ []))) cut;
}
