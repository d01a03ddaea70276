-- What is pending: texts that edits touched, each with the count of the last edit that touched it.
use Rattle.std.specs.Prelude.{◌≡◌, ◌≤◌, ℕ, ◌==◌, ◌&&◌, nat_lt, not, Bool, List, if◌then◌else◌}
use Rattle.std.specs.List.{list_any}
use Rattle.ixp_num_tables.specs.Sums.{count, Often}
use Rattle.ixp_num_tables.specs.Tables.{find, if_there, same}
use Rattle.ixp_build_pending.specs.declared.name.TextName.{TextName}
use Rattle.ixp_build_pending.specs.declared.pending.Pending.{Pending}
use Rattle.ixp_build_pending.specs.declared.rows.PendingText.{PendingText}
use Rattle.ixp_build_pending.specs.declared.touch.Touch.{Touch}
use Rattle.ixp_build_pending.specs.Names.{header_of, part_of, row_key, text_key}

-- What a touch lists.

abbrev pub is_key : List ℕ → ℕ → List ℕ × ℕ → Bool
is_key handle n k = same k.0 handle && k.1 == n

abbrev pub lists_header : Touch → List ℕ → Bool
lists_header t handle = list_any (λ h. same h handle) t.headers

abbrev pub lists_session : Touch → List ℕ → ℕ → Bool
lists_session t handle n = list_any (is_key handle n) t.sessions

-- no header and no session is listed twice
abbrev pub ListsOnce : Touch → Type 0
ListsOnce t = Often 1 (λ h. h) t.headers
    × ((handle : List ℕ) (n : ℕ) → count (is_key handle n) t.sessions ≤ 1)

-- The counts.

abbrev pub text_count : List PendingText → TextName → ℕ
text_count rows t = if_there (find row_key (text_key t) rows) 0 (λ r. r.count)

-- the last edit that touched the header; 0 where none did
abbrev pub header_count : Pending → List ℕ → ℕ
header_count p h = text_count p.texts (header_of h)

-- the last edit that touched the session's part; 0 where none did
abbrev pub session_count : Pending → List ℕ → ℕ → ℕ
session_count p h n = text_count p.texts (part_of h n)

-- nothing is pending
pub record IsNothing (p : Pending) : Type 0 where
  pub headers : (h : List ℕ) → header_count p h ≡ 0
  pub sessions : (h : List ℕ) (n : ℕ) → session_count p h n ≡ 0
  pub roas : p.roas ≡ 0

-- after an edit each text that it touched has its count, and the others have theirs
pub record IsNoted (c : ℕ) (t : Touch) (p q : Pending) : Type 0 where
  pub headers : (h : List ℕ) → header_count q h ≡ (if lists_header t h then c else header_count p h)
  pub sessions : (h : List ℕ) (n : ℕ)
      → session_count q h n ≡ (if lists_session t h n then c else session_count p h n)
  pub roas : q.roas ≡ (if t.roas then c else p.roas)

-- what is listed is what has a count, each text once
pub record IsListed (p : Pending) (t : Touch) : Type 0 where
  pub headers : (h : List ℕ) → lists_header t h ≡ not (header_count p h == 0)
  pub sessions : (h : List ℕ) (n : ℕ) → lists_session t h n ≡ not (session_count p h n == 0)
  pub roas : t.roas ≡ not (p.roas == 0)
  pub once : ListsOnce t

-- the counts above this one stay, and nothing else
abbrev pub later_count : ℕ → ℕ → ℕ
later_count upto c = if nat_lt upto c then c else 0

pub record IsLater (upto : ℕ) (p q : Pending) : Type 0 where
  pub headers : (h : List ℕ) → header_count q h ≡ later_count upto (header_count p h)
  pub sessions : (h : List ℕ) (n : ℕ) → session_count q h n ≡ later_count upto (session_count p h n)
  pub roas : q.roas ≡ later_count upto p.roas
