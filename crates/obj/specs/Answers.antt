-- The answers: what a check or a stage says, the outcome that it means, and the word that an entry gives for it.
-- Document 01: "A refusal is a number, section and address".
use Rattle.std.specs.Prelude.{ℕ, ◌+◌, ◌*◌, cond, ltb, Result, Ok, Err}
use Rattle.lists.specs.Outcome.{Outcome, accepted, refused}
use Rattle.obj.specs.declared.Refusal.{Refusal}

-- number, section and address in 16, 16 and 32 bits from the top
abbrev pub refusal_word : ℕ → ℕ → ℕ → ℕ
refusal_word number section address = number * 281474976710656 + section * 4294967296 + address

-- the word of an answer: 0, or its refusal's
abbrev pub word : Result (Unit {0}) Refusal → ℕ
word (Ok a) = 0
word (Err r) = refusal_word r.number r.section r.address

-- the word of an outcome
abbrev pub outcome_word : {A : Type 0} → Outcome A → ℕ
outcome_word (accepted a) = 0
outcome_word (refused number section address) = refusal_word number section address

-- what a check answers: nothing to say, or its refusal
abbrev pub Answer : Type 0
Answer = Result (Unit {0}) Refusal

-- what an answer says: its value, or its refusal
abbrev pub meaning : {A : Type 0} → Result A Refusal → Outcome A
meaning (Ok a) = accepted a
meaning (Err r) = refused r.number r.section r.address

-- a record's number as an address: one above 32 bits, as a long lent slice may give, is said as FFFFFFFF (DECISIONS.md, 13)
abbrev pub place : ℕ → ℕ
place record_number = cond (ltb record_number 4294967296) record_number 4294967295
