-- The promises, by the demand that they are of: Answers and OneOutcome (1 and 2), Room (1 and 2), Fresh (2 and 3), Exact (3), Mending (2 and 3), Apart and Pairs (2, and document 02's
-- Q-8, Q-6 and Q-7), Crews (3, and Q-14; Witness shows that it says something); ByNumber says most of them of the C calls. Telling, Stopped and Lent carry them.
pub mod Telling
pub mod Stopped
pub mod Lent
pub mod Answers
pub mod Room
pub mod OneOutcome
pub mod Exact
pub mod Fresh
pub mod Mending
pub mod Apart
pub mod Pairs
pub mod Crews
pub mod Witness
pub mod ByNumber
