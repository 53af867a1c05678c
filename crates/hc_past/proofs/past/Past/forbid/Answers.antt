use Rattle.std.proofs.Common.{◌∷◌, ◌∙◌, Option, ap, length, nat_lt, sym, take}
use Rattle.std.specs.Prelude.{is_some}
use Rattle.std.specs.Map.{lookup, remove_entry}
use Rattle.hc_head.specs.declared.head.Target.{Target}
use Rattle.hc_head.specs.Targets.{same_target}
use Rattle.hc_use.specs.declared.storing.Forbids.{Forbids}
use Rattle.lru.specs.LruCache.{LruCache}
use Rattle.hc_past.specs.Remembered.{forbidden_first, most_targets}
use Rattle.hc_past.proofs.ForbiddenLemmas.{more_known, put_first}
use Rattle.hc_past.proofs.past.Past.forbid.Goals as goal

pub returns-clause-forbidden : goal.returns-clause-forbidden
returns-clause-forbidden c = λ all has.
    let past = c.args.self.now in
    let copy = c.in_ok-target.target in
    let target = c.args.target.now in
    let forbids = c.in-Some.forbids in
    let known = c.contains-is_known.ensures ∙ ap (λ (t : Target). is_some (lookup (same_target t) past.forbidden.entries)) (sym c.in_ok-target.ensures) in
    let pushed = c.is_some-is_pushed.ensures ∙ ap is_some c.in_ok-forgotten.ensures.old in
    record {
      all_targets = has.all_targets;
      latest = ap (λ (cache : LruCache Target Forbids). cache.entries) c.in_ok-forgotten.ensures.entries
          ∙ put_first copy forbids 4095 all past.forbidden has.latest past.few_targets
          ∙ ap (λ (t : Target). take most_targets ((t, forbids) ∷ remove_entry (same_target t) all)) c.in_ok-target.ensures
          ∙ ap (λ (o : Option Forbids). take most_targets (forbidden_first target o all)) (sym c.in-Some.is);
      more = more_known copy forbids 4095 all past.forbidden past.has_forgotten_target c.contains-is_known.result c.is_some-is_pushed.result c.has_forgotten-self.result
          has.latest past.few_targets has.more known pushed c.has_forgotten-self.ensures
          ∙ ap (λ (t : Target). nat_lt most_targets (length ((t, forbids) ∷ remove_entry (same_target t) all))) c.in_ok-target.ensures
          ∙ ap (λ (o : Option Forbids). nat_lt most_targets (length (forbidden_first target o all))) (sym c.in-Some.is);
    }
