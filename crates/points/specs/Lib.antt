-- Points  from han and fu to points, payments, the winner's gain and the four changes
pub mod Points
