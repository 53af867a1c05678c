use Rattle.hc_why.proofs.changes.Ends.read.Goals as goal

pub returns-clause-lists : goal.returns-clause-lists
returns-clause-lists c =
    let lists = c.in_ok-fill.ensures.lists (c.none-ends.ensures.lists c.args.known.now.claim c.args.known.now.nearest) in
    record { unstored = lists.unstored; window = lists.window; invalidators = lists.invalidators; not_about = lists.not_about }
