use Rattle.std.proofs.Common.{length, Some, sym, ap, ◌∙◌, arith, rules}
use Rattle.record.specs.Look.{state}
use Rattle.report.specs.Left.{file_of}
use Rattle.report.proofs.Running.{at_end, at_stop, at_call, ends_nearer, call_within, call_nearer, stays_at_end, stays_at_fault}
use Rattle.report.proofs.report.Report.advance.Goals as goal

pub returns-in_default : goal.returns-in_default
returns-in_default c =
    let r = c.args.self.now in
    let told = c.in_default.ensures.steps in
    record {
      file = told.file;
      lines = at_end r.ended c.requires (state r.ledger) r.count (file_of r) r.reader.place told.answer;
      modest = tt;
      nearer = ends_nearer r.ended c.requires (file_of r) r.reader.place;
    }

pub invariant_of-self : goal.invariant_of-self
invariant_of-self c =
    let r = c.args.self.now in
    let told = c.in_default.ensures.steps in
    let same = stays_at_end (file_of r) r.reader.place c.next.new.self.place told.place told.answer in
    record { few = omega (arith, r.few, same); short = omega (arith, r.short, ap length told.file) }

pub invariant_of-self-in-Err : goal.invariant_of-self-in-Err
invariant_of-self-in-Err c =
    let r = c.args.self.now in
    let told = c.in-Some.ensures.steps in
    let same = stays_at_fault (file_of r) r.reader.place c.next.new.self.place c.in-Err.fault told.place (ap Some (sym c.in-Err.is) ∙ told.answer) in
    record { few = omega (arith, r.few, same); short = omega (arith, r.short, ap length told.file) }

pub overflow_add-self : goal.overflow_add-self
overflow_add-self c =
    let r = c.args.self.now in
    let told = c.in-Some.ensures.steps in
    let w = call_within r.ended c.requires (file_of r) r.reader.place c.next.new.self.place c.in-Ok.call told.place (ap Some (sym c.in-Ok.is) ∙ told.answer) in
    let long = r.short in
    search rules

pub invariant_of-self-in-Ok : goal.invariant_of-self-in-Ok
invariant_of-self-in-Ok c =
    let r = c.args.self.now in
    let told = c.in-Some.ensures.steps in
    let w = call_within r.ended c.requires (file_of r) r.reader.place c.next.new.self.place c.in-Ok.call told.place (ap Some (sym c.in-Ok.is) ∙ told.answer) in
    record { few = omega (arith, r.few, w); short = omega (arith, r.short, ap length told.file) }

pub returns-in-Err : goal.returns-in-Err
returns-in-Err c =
    let r = c.args.self.now in
    let told = c.in-Some.ensures.steps in
    record {
      file = told.file;
      lines = at_stop r.ended c.requires (state r.ledger) r.count (file_of r) r.reader.place c.in-Err.fault (ap Some (sym c.in-Err.is) ∙ told.answer);
      modest = search rules;
      nearer = ends_nearer r.ended c.requires (file_of r) r.reader.place;
    }

pub returns-in-Ok-make : goal.returns-in-Ok-make
returns-in-Ok-make c =
    let r = c.args.self.now in
    let told = c.in-Some.ensures.steps in
    let d = ap Some (sym c.in-Ok.is) ∙ told.answer in
    record {
      file = told.file;
      lines = at_call r.ended c.requires (state r.ledger) r.count (file_of r) r.reader.place _ _ _ c.in-Ok.call _ told.file told.place d c.in-Ok-make.ensures;
      modest = tt;
      nearer = call_nearer r.ended c.requires (file_of r) r.reader.place _ _ c.in-Ok.call told.file told.place d;
    }

pub returns-in-Err-make : goal.returns-in-Err-make
returns-in-Err-make c =
    let r = c.args.self.now in
    let told = c.in-Some.ensures.steps in
    let d = ap Some (sym c.in-Ok.is) ∙ told.answer in
    record {
      file = told.file;
      lines = at_call r.ended c.requires (state r.ledger) r.count (file_of r) r.reader.place _ _ _ c.in-Ok.call _ told.file told.place d c.in-Err-make.ensures;
      modest = search rules;
      nearer = call_nearer r.ended c.requires (file_of r) r.reader.place _ _ c.in-Ok.call told.file told.place d;
    }
