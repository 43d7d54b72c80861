-- What is claimed of the files that are written from charts, in the words of document 02, request 3.
-- Assumes nothing.
pub mod ClaimsRead
pub mod ClaimsFindings
pub mod ChartE
pub mod ClaimsOrder
pub mod ClaimsAnswers
pub mod ClaimsBlocks
