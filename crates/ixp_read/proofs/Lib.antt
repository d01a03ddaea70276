pub mod AnswerLaws
pub mod ConfigurationLaws
pub mod ConfigurationStops
pub mod HeadSteps
pub mod ItemSteps
mod PlacedFaults
pub mod RoundSteps
pub mod SteadyItems
pub mod SureFunctions
pub mod SureItems
pub mod WholeItems
