use Rattle.std.proofs.Common.{inl, inr, refl}
use Rattle.hc_arguments.proofs.arguments.patience_in.Goals as goal

pub limit_in-requires-clause-among : goal.limit_in-requires-clause-among
limit_in-requires-clause-among c = inr (inr (inr (inr (inr (inr (inr (inr (inl refl))))))))

pub limit_in-requires-2-clause-among : goal.limit_in-requires-2-clause-among
limit_in-requires-2-clause-among c = inr (inr (inr (inr (inr (inr (inr (inr (inr (inl refl)))))))))

pub limit_in-requires-3-clause-among : goal.limit_in-requires-3-clause-among
limit_in-requires-3-clause-among c = inr (inr (inr (inr (inr (inr (inr (inr (inr (inr (inl refl))))))))))

pub limit_in-requires-4-clause-among : goal.limit_in-requires-4-clause-among
limit_in-requires-4-clause-among c = inr (inr (inr (inr (inr (inr (inr (inr (inr (inr (inr (inl refl)))))))))))

pub limit_in-requires-5-clause-among : goal.limit_in-requires-5-clause-among
limit_in-requires-5-clause-among c = inr (inr (inr (inr (inr (inr (inr (inr (inr (inr (inr (inr (inr (inl refl)))))))))))))

pub limit_in-requires-6-clause-among : goal.limit_in-requires-6-clause-among
limit_in-requires-6-clause-among c = inr (inr (inr (inr (inr (inr (inr (inr (inr (inr (inr (inr (inr (inr (inl refl))))))))))))))

pub limit_in-requires-7-clause-among : goal.limit_in-requires-7-clause-among
limit_in-requires-7-clause-among c = inr (inr (inr (inr (inr (inr (inr (inr (inr (inr (inr (inr (inr (inr (inr (inl refl)))))))))))))))
