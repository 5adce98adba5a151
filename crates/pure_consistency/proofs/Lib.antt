mod ValueLaws
mod TableLaws
mod DomainLaws
mod MeaningLaws
mod ConnectiveLaws
mod TruthLaws
mod ConsistencyLaws
