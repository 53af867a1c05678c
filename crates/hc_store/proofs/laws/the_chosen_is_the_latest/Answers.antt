use Rattle.hc_store.specs.Choosing.{is_selected, is_selected_validated}
use Rattle.hc_store.proofs.LawLemmas.{first_choice_is, none_chosen}
use Rattle.hc_store.proofs.laws.the_chosen_is_the_latest.Goals as goal

pub returns-clause-latest : goal.returns-clause-latest
returns-clause-latest c = λ presented variants choice is. first_choice_is (is_selected presented) variants choice is

pub returns-clause-validated : goal.returns-clause-validated
returns-clause-validated c = λ presented position variants choice is. first_choice_is (is_selected_validated presented position) variants choice is

pub returns-clause-none : goal.returns-clause-none
returns-clause-none c = λ presented variants none. none_chosen (is_selected presented) variants none
