-- Saving, restoring and converting (docs/RULES.md, section 6.6): what each call answers and what it leaves.
use Rattle.std.specs.Prelude.{not, List, [], ◌∷◌, ◌++◌, ℕ, ltb, length, drop}
use Rattle.uslp_kinds.specs.Outcome.{done, refused, first_of, Written, leaving, only_if_done}
use Rattle.uslp_record.specs.Record.{Kept, keeping}
use Rattle.uslp_record.specs.declared.SlotState.{SlotState}
use Rattle.uslp_record.specs.declared.ChannelRecord.{ChannelRecord}
use Rattle.uslp_form.specs.declared.Form.{Form}
use Rattle.uslp_form.specs.Form.{says_all, form_of, GoodForm, restored}

module _ (f : Form) where
  -- saving: 19 where the form does not say every open channel, then 2; the octets behind the form stay
  unfoldable pub saving : ChannelRecord → List ℕ → Written ℕ
  saving r b =
      only_if_done
      (first_of
      ((not (says_all f r.slots), refused 19 [])
      ∷ (ltb (length b) (length (form_of f r)), refused 2 (length b ∷ length (form_of f r) ∷ []))
      ∷ [])
      (done (length (form_of f r))))
      (form_of f r ++ drop (length (form_of f r)) b)
      b

  -- restoring: the record of a good form's entries; 18 where the octets are no good form, and the record is kept
  pub data Restoring (r : ChannelRecord) (s : List ℕ) : Kept (Unit {0}) → Type 0 where
    good : (us hs : List SlotState) → GoodForm f s us hs → Restoring r s (keeping (done tt) (restored (us ++ hs)))
    bad : ((us hs : List SlotState) → GoodForm f s us hs → ⊥) → Restoring r s (keeping (refused 18 []) r)

-- converting octets of form f to form g: 18 where they are no good form; else the record that they hold is saved in form g, so 19, then 2
pub data Converting (f g : Form) (s b : List ℕ) : Written ℕ → Type 0 where
  good : (us hs : List SlotState) → GoodForm f s us hs → Converting f g s b (saving g (restored (us ++ hs)) b)
  bad : ((us hs : List SlotState) → GoodForm f s us hs → ⊥) → Converting f g s b (leaving (refused 18 []) b)
