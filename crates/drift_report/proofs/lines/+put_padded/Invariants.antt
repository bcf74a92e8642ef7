use Rattle.drift_report.proofs.lines.+put_padded.Given as goal

-- the measure is the width
abbrev pub decreases-put_padded : goal.decreases-put_padded
decreases-put_padded l = l.width
