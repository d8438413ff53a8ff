-- A channel that the form does not say is refused; else both sections are put, and copied where there is room.
use Rattle.std.proofs.Common.{sym, ◌∙◌, ap, arith, length}
use Rattle.uslp_record.proofs.Seek.{eight_slots}
use Rattle.uslp_form.proofs.Claims.{saving_lacks}
use Rattle.uslp_saved.proofs.Walk.{both_first, both_sections, save_short, save_done, sections_fit}
use Rattle.uslp_saved.proofs.save.Goals as goal

pub returns-then-not-says_all : goal.returns-then-not-says_all
returns-then-not-says_all c =
    let a = c.args in
    sym (saving_lacks a.form a.channels a.to.now (sym c.says_all.ensures ∙ c.if-not-says_all.true))

pub put_section-requires : goal.put_section-requires
put_section-requires c =
    let a = c.args in
    omega (arith, ap length c.new-out.ensures, sections_fit a.form a.channels (eight_slots a.channels c.well_formed.0))

pub put_section-requires-2 : goal.put_section-requires-2
put_section-requires-2 c =
    let a = c.args in
    omega (
      arith,
      ap length (c.put_section.ensures ∙ both_first a.form a.channels c.new-out.ensures),
      sections_fit a.form a.channels (eight_slots a.channels c.well_formed.0),
    )

pub returns-then-found-expected : goal.returns-then-found-expected
returns-then-found-expected c =
    let a = c.args in
    let b = both_sections a.form a.channels c.new-out.ensures c.put_section.ensures c.put_section-2.ensures c.as_slice-octets.ensures in
    save_short a.form a.channels a.to.now _ (sym c.says_all.ensures ∙ c.if-not-says_all.false) b c.if-found-expected.true

pub returns : goal.returns
returns c =
    let a = c.args in
    let b = both_sections a.form a.channels c.new-out.ensures c.put_section.ensures c.put_section-2.ensures c.as_slice-octets.ensures in
    save_done a.form a.channels a.to.now _ (sym c.says_all.ensures ∙ c.if-not-says_all.false) b _
    c.if-found-expected.false c.copy_octets.ensures
