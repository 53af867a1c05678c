-- What is no list, and has no inner list behind members, breaks the syntax.
use Rattle.std.proofs.Common.{◌≡◌, ℕ, zero, suc, ◌==◌, List, [], ◌∷◌, ◌++◌, Option, Some, None, Result, Ok, Err, inl, inr, refl}
use Rattle.hc_status.specs.declared.fault.SfFault.{SfFault}
use Rattle.hc_status.specs.declared.fault.SfFault.TheVariants.{Syntax, InnerList, Memory}
use Rattle.hc_status.specs.declared.items.Member.{Member}
use Rattle.hc_status.specs.Classes.{is_blank, is_space}
use Rattle.hc_status.specs.Grammar.{IsList, BeginsInnerList}
use Rattle.hc_status.specs.Reading.{behind, ok_or, item_at, member_at, after_member, members_from, trimmed_list_of, list_of}
use Rattle.hc_status.proofs.RunLemmas.{split_cond}
use Rattle.hc_status.proofs.ListLemmas.{err_then, list_is_read, list_sound, inner_list_is_read, inner_list_sound}

item_needs_no_memory : {A : Type 0} (found : Option A) → ok_or Syntax found ≡ Err Memory → ⊥
item_needs_no_memory (Some x) failed = cc
item_needs_no_memory None failed = cc

member_needs_no_memory : (text : List ℕ) → member_at text ≡ Err Memory → ⊥
member_needs_no_memory [] failed = cc
member_needs_no_memory (b ∷ text) failed =
    elim (split_cond (b == 40) _ _ _ failed) [
      | inl inner ↦ (let e = inner.1 in cc)
      | inr item ↦ item_needs_no_memory (item_at (b ∷ text)) item.1
    ]

next_needs_no_memory : (members : List Member) (more : List ℕ → Result (List Member) SfFault) (rest : List ℕ)
    → ((text : List ℕ) → more text ≡ Err Memory → ⊥) → after_member members more rest ≡ Err Memory → ⊥
next_needs_no_memory members more [] later failed = cc
next_needs_no_memory members more (b ∷ rest) later failed =
    elim (split_cond (b == 44) _ _ _ failed) [
      | inl comma ↦ later (behind is_blank rest) comma.1
      | inr other ↦ (let e = other.1 in cc)
    ]

members_need_no_memory : (n : ℕ) (members : List Member) (text : List ℕ) → members_from n members text ≡ Err Memory → ⊥
unfolding members_from
members_need_no_memory zero members text failed = cc
members_need_no_memory (suc n) members text failed =
    elim (err_then _ (member_at text) Memory failed) [
      | inl first ↦ member_needs_no_memory text first
      | inr found ↦
          next_needs_no_memory (members ++ found.0.0 ∷ []) (members_from n (members ++ found.0.0 ∷ [])) (behind is_blank found.0.1)
          (members_need_no_memory n (members ++ found.0.0 ∷ [])) found.2
    ]

trimmed_needs_no_memory : (text : List ℕ) → trimmed_list_of text ≡ Err Memory → ⊥
trimmed_needs_no_memory [] failed = cc
trimmed_needs_no_memory (b ∷ text) failed = members_need_no_memory _ [] (b ∷ text) failed

needs_no_memory : (octets : List ℕ) → list_of octets ≡ Err Memory → ⊥
unfolding list_of
needs_no_memory octets failed = trimmed_needs_no_memory (behind is_space octets) failed

-- neither a list nor an inner list behind members
abbrev pub IsNeither : List ℕ → Type 0
IsNeither octets = ¬ (BeginsInnerList octets) × ((members : List Member) → ¬ (IsList members octets))

syntax_by : (octets : List ℕ) (answer : Result (List Member) SfFault) → list_of octets ≡ answer → IsNeither octets → list_of octets ≡ Err Syntax
syntax_by octets (Ok members) is neither = absurd (neither.1 members (list_sound octets members is))
syntax_by octets (Err Syntax) is neither = is
syntax_by octets (Err InnerList) is neither = absurd (neither.0 (inner_list_sound octets is))
syntax_by octets (Err Memory) is neither = absurd (needs_no_memory octets is)

pub neither_breaks : (octets : List ℕ) → IsNeither octets → list_of octets ≡ Err Syntax
neither_breaks octets neither = syntax_by octets (list_of octets) refl neither

pub broken_is_neither : (octets : List ℕ) → list_of octets ≡ Err Syntax → IsNeither octets
broken_is_neither octets broken =
    (λ begins. let inner = inner_list_is_read octets begins in cc, λ members is. let read = list_is_read octets members is in cc)
