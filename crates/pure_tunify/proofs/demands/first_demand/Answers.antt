use Rattle.pure_tunify.proofs.demands.first_demand.Goals as goal

pub returns-in_ok-demand_sort-in-Variable : goal.returns-in_ok-demand_sort-in-Variable
returns-in_ok-demand_sort-in-Variable c = rw c.in-Variable.is (λ A v each fit. c.in_ok-demand_sort-in-Variable.ensures A v each fit)
