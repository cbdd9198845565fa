-- Which fault a field has that makes no call.
use Rattle.std.proofs.Common.{◌≡◌, ℕ, false, eqb, List, [], length, Err, sym, ap, ◌∙◌, arith}
use Rattle.std.proofs.lemmas.Bool.{ne_eqb}
use Rattle.rules.specs.declared.refusal.Stop.TheVariants.{UnknownTag, WrongLength}
use Rattle.callfile.specs.declared.call.Call.{Call}
use Rattle.callfile.specs.declared.call.Call.TheVariants.{Enrol, CloseRoll, Multiplier}
use Rattle.callfile.specs.Fields.{tagged, laid}
use Rattle.callfile.specs.Calls.{said, call_of, IsNamed}
use Rattle.callfile.specs.Places.{measured, heard}
use Rattle.callfile.specs.Laws.{TellsCut, TellsUnknown, TellsLength}
use Rattle.callfile.proofs.Backs.{enrol_size}
use Rattle.callfile.proofs.Fronts.{front-found, front_cut}

pub tells_cut : TellsCut
tells_cut field n short part = ap heard (front_cut field n short part)

unknown : (tag : ℕ) (value : List ℕ) → ((call : Call) → (said call).tag ≡ tag → ⊥) → call_of tag value ≡ Err UnknownTag
unknown tag value other =
    let a : eqb tag 1 ≡ false = ne_eqb _ _ (λ e. other (Enrol (record { bytes = [] }) 0) (omega arith)) in
    let b : eqb tag 2 ≡ false = ne_eqb _ _ (λ e. other CloseRoll (omega arith)) in
    let c : eqb tag 8 ≡ false = ne_eqb _ _ (λ e. other (Multiplier 0) (omega arith)) in
    rw (a, b, c)

pub tells_unknown : TellsUnknown
tells_unknown field rest short other =
    ap heard (front-found field rest short) ∙ ap (measured (length (laid field))) (unknown field.tag field.value other)

wrong_length : (call : Call) (value : List ℕ) → IsNamed call → (length value ≡ length (said call).value → ⊥) → call_of (said call).tag value ≡ Err WrongLength
wrong_length (Enrol name contribution) value named other = let a : eqb (length value) 16 ≡ false = ne_eqb _ _ (λ e. other (e ∙ sym (enrol_size name contribution named))) in rw a
wrong_length CloseRoll value named other = let a : eqb (length value) 0 ≡ false = ne_eqb _ _ other in rw a
wrong_length (Multiplier thousandths) value named other = let a : eqb (length value) 4 ≡ false = ne_eqb _ _ other in rw a

pub tells_length : TellsLength
tells_length call value rest named short other =
    ap heard (front-found (tagged (said call).tag value) rest short)
    ∙ ap (measured (length (laid (tagged (said call).tag value)))) (wrong_length call value named other)
