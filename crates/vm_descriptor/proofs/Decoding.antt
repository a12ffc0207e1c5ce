-- What is left to ask of bytes that are readable.
use Rattle.std.proofs.Common.{◌≡◌, ◌<◌, ◌^◌, ℕ, List, length, drop, sym, ap, ap₂, ◌∙◌, Some, None, arith}
use Rattle.std.specs.Prelude.{Bool, if◌then◌else◌, Option, Err}
use Rattle.flat_memory.proofs.ByteLists.{AreBytes}
use Rattle.vm_descriptor.specs.declared.error.DescError.{DescError}
use Rattle.vm_descriptor.specs.declared.error.DescError.TheVariants.{Refused, Memory}
use Rattle.vm_descriptor.specs.declared.version.Version.{Version}
use Rattle.vm_descriptor.specs.Maps.{form_of, is_due}
use Rattle.vm_descriptor.specs.Described.{IsGiven, IsReadable, IsRefused, read_as, refused}
use Rattle.vm_descriptor.proofs.DecodedInRange.{decoded_in_range}
use Rattle.vm_descriptor.proofs.Marks.{left_of}

-- an error is want of memory where nothing is refused
pub given_unless_refused : {T : Type 0} (P : T → Type 0) (bytes : List ℕ) (error : DescError) → refused bytes ≡ None → IsRefused bytes error → IsGiven P (Err error)
given_unless_refused P bytes (Refused number) none is = cc
given_unless_refused P bytes Memory none is = tt

module _ (bytes : List ℕ) (are : AreBytes bytes) (version : Version) (readable : IsReadable version bytes) where
  pub few_flags : (flags : List Bool) → flags ≡ (read_as version bytes).blank → length flags < 2 ^ 16
  few_flags flags is =
      let range = decoded_in_range version bytes are readable in
      let each = range.ram.one_bit_a_page in
      let most = range.ram.most in
      omega (arith, ap (λ (fs : List Bool). length fs) is, each, most)

  -- by the test of the form
  pub refused_by_form : (rest : List ℕ) (flags : List Bool) (due : Bool) → rest ≡ drop version.fields bytes → flags ≡ (read_as version bytes).blank
      → due ≡ is_due version.has_forms (form_of version.has_forms rest) flags → refused bytes ≡ (if due then None else Some 7)
  unfolding read_as
  refused_by_form rest flags due is_rest are_flags is =
      left_of bytes version readable
      ∙ ap (λ (b : Bool). let found : Option ℕ = if b then None else Some 7 in found)
      (sym (is ∙ ap₂ (λ (ys : List ℕ) (fs : List Bool). is_due version.has_forms (form_of version.has_forms ys) fs) is_rest are_flags))
