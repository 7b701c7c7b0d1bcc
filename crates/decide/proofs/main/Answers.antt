use Rattle.decide.proofs.main.Goals as goal

pub run-end-requires : goal.run-end-requires
run-end-requires c = c.start-log.ensures
