mod Loop
mod Programs
