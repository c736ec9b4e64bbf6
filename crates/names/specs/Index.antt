-- The index of the names: each name's number is chained behind the later names of the same hash, so that a name is found without
-- looking at all names. What is found does not depend on the hash (`number_of`); only the time does.
use Rattle.std.specs.Prelude.{ℕ, suc, ◌+◌, ◌*◌, ◌/◌, ◌%◌, ◌≤◌, ◌<◌, ◌≡◌, List, [], ◌∷◌, Bool, false, cond, length, get_or, take, eqb, Option, MatchOption}
use Rattle.names.specs.Names.{same_name, number_of}

-- one byte more
abbrev pub mix : ℕ → ℕ → ℕ
mix h b = (h * 16777619 + b) % 4294967296

unfoldable pub hash_from : ℕ → List ℕ → ℕ
hash_from h [] = h
hash_from h (b ∷ name) = hash_from (mix h b) name

-- the bucket of a name, one of 8,192
unfoldable pub bucket_of : List ℕ → ℕ
bucket_of name = hash_from 2166136261 name / 524288

-- r is the bucket of a name
pub record InBucket (name : List ℕ) (r : ℕ) : Type 0 where
  pub is : r ≡ bucket_of name
  pub small : r < 8192

-- one more than the number of the last name in the bucket, 0 if there is none; the names are numbered from n on, `before` is the answer so far
unfoldable pub last_from : ℕ → ℕ → ℕ → List (List ℕ) → ℕ
last_from bucket n before [] = before
last_from bucket n before (name ∷ names) = last_from bucket (suc n) (cond (eqb (bucket_of name) bucket) (suc n) before) names

abbrev pub last_in : ℕ → List (List ℕ) → ℕ
last_in bucket names = last_from bucket 0 0 names

-- no two of the names are the same
abbrev pub Different : List (List ℕ) → Type 0
Different names = (j k : ℕ) → j < k → k < length names → same_name (get_or names j []) (get_or names k []) ≡ false

-- heads has the last name of each bucket, chain the last one before each name in its bucket, both one more than its number
pub record Indexed (names : List (List ℕ)) (heads chain : List ℕ) : Type 0 where
  pub few : length names ≤ 4096
  pub buckets : length heads ≡ 8192
  pub room : 4096 ≤ length chain
  pub head : (h : ℕ) → h < 8192 → get_or heads h 0 ≡ last_in h names
  pub next : (k : ℕ) → k < length names → get_or chain k 0 ≡ last_in (bucket_of (get_or names k [])) (take k names)
  pub different : Different names

-- r is the number of x among the names, their count if it is none of them
pub record Found (names : List (List ℕ)) (x : List ℕ) (r : ℕ) : Type 0 where
  pub is : r ≡ number_of names x
  pub few : r ≤ length names

-- what a search for x gives: its number among the names, None if it is none of them
abbrev pub Sought : (names : List (List ℕ)) → (x : List ℕ) → Option ℕ → Type 0
Sought names x r = MatchOption r (Found names x (length names)) (λ k. Found names x k × (k < length names))

-- an index of names, and calls that say whether name k is x: each number of a name may be asked, and what a call answers is whether that name is the same
pub record AskedBy (pre : ℕ → Type 0) (post : ℕ → Bool → Type 0) (names : List (List ℕ)) (heads chain : List ℕ) (x : List ℕ) : Type 0 where
  pub index : Indexed names heads chain
  pub asked : (k : ℕ) → k < length names → pre k
  pub tells : (k : ℕ) (r : Bool) → k < length names → post k r → r ≡ same_name x (get_or names k [])
