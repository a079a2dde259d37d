-- `program_io::output::Printer::heading` meets its contract: each call adds its bytes behind what stands, and there is room for all. Assumes nothing.
use mathlib.Core.Path.{◌≡◌, refl, subst}
use mathlib.Core.List.{◌++◌}
use native.Mathlib.Omega.{arith}
use lib.ListN.{take, length-append}
use Rattle.std.specs.Io.KnownBytes.{Appends}
use Rattle.print_lines.specs.Ascii.{bytes_of}
use Rattle.program_io.specs.Outputs.{blank_line, heading_text}
use Rattle.program_io.proofs.Front.{Front, front-more, front-text, blank-short}
use Rattle.program_io.proofs.output.Printer.heading.Goals as goal

pub returns : goal.returns
unfolding heading_text
returns g c =
    let blank = blank_line c.args.self.now.output.has_report in
    let arrow = blank ++ bytes_of "==> " in
    let named = arrow ++ c.args.name.now in
    let few = blank-short c.args.self.now.output.has_report in
    let arrow_length = length-append blank (bytes_of "==> ") in
    let named_length = length-append arrow c.args.name.now in
    let front_1 : Front c.args.out.now blank c.put_blank-at.result c.put_blank-at.new.out
    = record { place = c.put_blank-at.ensures.0; put = c.put_blank-at.ensures.1; room = omega (arith, few) } in
    let front_2 : Front c.args.out.now arrow c.put_bytes-at.result c.put_bytes-at.new.out
    = front-more front_1 (bytes_of "==> ") (omega (arith, few)) c.put_bytes-at.ensures in
    let front_3 : Front c.args.out.now named c.put_bytes-at-2.result c.put_bytes-at-2.new.out
    = front-more front_2 c.args.name.now (omega (arith, few, arrow_length)) c.put_bytes-at-2.ensures in
    let front_4 : Front c.args.out.now (named ++ bytes_of " <==\n") c.put_bytes-at-3.result c.put_bytes-at-3.new.out
    = front-more front_3 (bytes_of " <==\n") (omega (arith, few, arrow_length, named_length)) c.put_bytes-at-3.ensures in
    let wrote = c.write.ensures in
    let all : take c.put_bytes-at-3.result c.put_bytes-at-3.new.out ≡ named ++ bytes_of " <==\n" = front-text front_4 in
    record {
      headed = record { heading_put = front_4.put; lost_stays = wrote.recorded.lost_stays; report_begun = refl };
      put = record {
        lost_stays = wrote.put.lost_stays;
        after_loss = wrote.put.after_loss;
        unless_lost = λ kept. subst (Appends _ _) all (wrote.put.unless_lost kept);
      };
    }
