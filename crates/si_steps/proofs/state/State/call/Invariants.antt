use Rattle.si_steps.proofs.state.State.call.Given as goal

abbrev pub ghost-call_function : goal.ghost-call_function
ghost-call_function g a = g.p

abbrev pub ghost-call_provided : goal.ghost-call_provided
ghost-call_provided g a = g.p
