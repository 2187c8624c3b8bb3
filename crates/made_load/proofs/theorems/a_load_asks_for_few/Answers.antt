use Rattle.made_load.proofs.LoadRounds.{commits_all, takes_few, load_names, load_names_four, stalls_nothing}
use Rattle.made_load.proofs.theorems.a_load_asks_for_few.Goals as goal

pub returns-clause-commits : goal.returns-clause-commits
returns-clause-commits c seed batches = commits_all seed batches

pub returns-clause-numbers : goal.returns-clause-numbers
returns-clause-numbers c seed batches = takes_few seed batches

pub returns-clause-names : goal.returns-clause-names
returns-clause-names c seed batches some = load_names seed batches some

pub returns-clause-calm : goal.returns-clause-calm
returns-clause-calm c seed batches = stalls_nothing seed batches

pub returns-clause-four : goal.returns-clause-four
returns-clause-four c seed batches = load_names_four seed batches
