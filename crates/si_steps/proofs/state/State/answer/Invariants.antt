use Rattle.si_steps.proofs.state.State.answer.Given as goal

abbrev pub ghost-fail : goal.ghost-fail
ghost-fail g a = g.q.1
