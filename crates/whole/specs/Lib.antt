-- The laws of whole numbers and lists that every crate above cites; nothing of encryption. What document 01 defines here is mathematics: "A half goes up:
-- round(x) is the greatest whole number not above x + 1/2" (*What the engine covers*) is Round, "[x]q is the number in -q/2 to q/2-1 that differs from x by a
-- multiple of q" (*Arithmetic*) is Centred, and <s,c> is Inner.
-- To read: Tests, Laws, Ring and Split, by which the rest is proved; Size, Floor, Round, Centred; Lists, Inner; last Rem and Machine, numbers as a machine has them.
pub mod Tests
pub mod Laws
pub mod Ring
pub mod Split
pub mod Size
pub mod Floor
pub mod Rem
pub mod Round
pub mod Centred
pub mod Lists
pub mod Inner
pub mod Machine
