-- The value that a body is.
use Rattle.std.proofs.Common.{◌≡◌, ℕ, List, Bool, true, false, Some, None, Result, Ok, Err, refl, if◌then◌else◌}
use Rattle.std.specs.Str.{IsUtf8, is_utf8}
use Rattle.std.proofs.lemmas.Str.{IsUtf8-from_is_utf8, is_utf8-from_IsUtf8}
use Rattle.serde_json.specs.Data.{Data}
use Rattle.serde_json.specs.Read.{read}
use Rattle.ixp_api_json.specs.declared.pointer.CallFault.{CallFault}
use Rattle.ixp_api_json.specs.declared.pointer.Pointer.TheVariants.{Whole}
use Rattle.ixp_api_bodies.specs.Answers.{must}
use Rattle.ixp_api_bodies.specs.Values.{value_of, whole}

pub value-there : (body : List ℕ) (d : Data) → IsUtf8 body → read body ≡ Some d → ◌≡◌ {A = Result Data CallFault} (Ok d) (value_of body)
value-there body d text is = rw (is_utf8-from_IsUtf8 body text, is) refl

pub no-value : (body : List ℕ) → (IsUtf8 body → read body ≡ None) → ◌≡◌ {A = Result Data CallFault} (Err whole) (value_of body)
no-value body none = by (is_utf8 body) (λ e. none (IsUtf8-from_is_utf8 body e))
  where
    by : (v : Bool) → (v ≡ true → read body ≡ None) → ◌≡◌ {A = Result Data CallFault} (Err whole) (must Whole (if v then read body else None))
    by true is = rw (is refl) refl
    by false is = refl
