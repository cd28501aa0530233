-- How many stamps a set has, and a memory with limits.
use Rattle.std.specs.Prelude.{◌≡◌, ◌≢◌, ◌⊎◌, ◌≤◌, ◌≤ℤ◌, ◌+◌, ◌%◌, ◌^◌, ℕ, ℤ, pos, neg_ℤ, Option, Some, None, List, [], ◌∷◌, length, AllPairs, Contains}
use Rattle.krb_replay.specs.Stamp.{RealmAndName, Stamp}

-- the stamp is of the client, or of any if none is named
abbrev pub IsOf : Option RealmAndName → Stamp → Type 0
IsOf None stamp = Unit {0}
IsOf (Some client) stamp = stamp.client ≡ client

-- the set's stamps of a client, or of all, whose time isn't before a moment
abbrev pub Since : (Stamp → Type 0) → Option RealmAndName → ℤ → Stamp → Type 0
Since has client oldest stamp = has stamp × ((oldest ≤ℤ stamp.time) × IsOf client stamp)

-- a set has at least so many stamps: some list has as many of them, each once
pub record HasAtLeast (has : Stamp → Type 0) (count : ℕ) : Type 0 where
  pub stamps : List Stamp
  pub once : AllPairs (λ one other. one ≢ other) stamps
  pub among : (stamp : Stamp) → Contains stamps stamp → has stamp
  pub enough : count ≤ length stamps

-- how many stamps may count at once, and how many of one client
pub record Limits : Type 0 where
  pub all : ℕ
  pub of_client : ℕ

-- the set has so many stamps since a moment, or so many of the stamp's client
abbrev pub Reaches : (Stamp → Type 0) → ℤ → Stamp → Limits → Type 0
Reaches has oldest stamp limits = HasAtLeast (Since has None oldest) limits.all
    ⊎ HasAtLeast (Since has (Some stamp.client) oldest) limits.of_client

-- it reaches one of several limits; a memory without a limit has none of them
abbrev pub ReachesAny : (Stamp → Type 0) → ℤ → Stamp → List Limits → Type 0
ReachesAny has oldest stamp [] = ⊥
ReachesAny has oldest stamp (limits ∷ more) = Reaches has oldest stamp limits ⊎ ReachesAny has oldest stamp more

-- a stamp is past one of several limits: the set hasn't it yet, and reaches a limit
abbrev pub IsPastAny : (Stamp → Type 0) → ℤ → Stamp → List Limits → Type 0
IsPastAny has oldest stamp limits = ¬ has stamp × ReachesAny has oldest stamp limits

-- Of several counts, one for each of several limits, exactly one has gone up, by one. They are
-- modulo 2 to the 64.
abbrev pub CountsOne : List ℕ → List ℕ → Type 0
CountsOne (old ∷ olds) (new ∷ news) = ((new ≡ (old + 1) % 2 ^ 64) × (news ≡ olds)) ⊎ ((new ≡ old) × CountsOne olds news)
CountsOne _ _ = ⊥

-- Of several counts, that of the first limit that the set reaches has gone up, by one. The others
-- are the same.
abbrev pub CountsFirst : (Stamp → Type 0) → ℤ → Stamp → List Limits → List ℕ → List ℕ → Type 0
CountsFirst has oldest stamp (limits ∷ more) (old ∷ olds) (new ∷ news) =
    (Reaches has oldest stamp limits × ((new ≡ (old + 1) % 2 ^ 64) × (news ≡ olds)))
    ⊎ (¬ Reaches has oldest stamp limits × ((new ≡ old) × CountsFirst has oldest stamp more olds news))
CountsFirst _ _ _ _ _ _ = ⊥

-- A memory with limits: the memory that it limits, the most stamps that it takes, and the most of
-- one client; the moment since which stamps count; and how often it has refused one for a limit,
-- modulo 2 to the 64.
pub record Limited (M : Type 0) : Type 0 where
  pub memory : M
  pub limit : ℕ
  pub limit_for_client : ℕ
  pub oldest : ℤ
  pub refused : ℕ

-- a memory that is newly limited: all its stamps count
abbrev pub limited : {M : Type 0} → M → ℕ → ℕ → Limited M
limited memory limit limit_for_client = record {
  memory = memory;
  limit = limit;
  limit_for_client = limit_for_client;
  oldest = neg_ℤ (pos (2 ^ 63));
  refused = 0;
}

abbrev pub limits_of : {M : Type 0} → Limited M → Limits
limits_of limited = record { all = limited.limit; of_client = limited.limit_for_client }

-- there is no room for a stamp: the memory hasn't it yet, and so many stamps count, or so many of
-- its client
abbrev pub IsFull : {M : Type 0} → (M → Stamp → Type 0) → Limited M → Stamp → Type 0
IsFull has limited stamp = ¬ has limited.memory stamp × Reaches (has limited.memory) limited.oldest stamp (limits_of limited)

-- one more was refused, and nothing else has changed
abbrev pub counts_refusal : {M : Type 0} → Limited M → Limited M
counts_refusal limited = record {
  memory = limited.memory;
  limit = limited.limit;
  limit_for_client = limited.limit_for_client;
  oldest = limited.oldest;
  refused = (limited.refused + 1) % 2 ^ 64;
}
